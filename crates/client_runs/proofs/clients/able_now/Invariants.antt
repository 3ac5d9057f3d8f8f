use Rattle.std.proofs.Common.{◌≡◌, ◌≤◌, take}
use Rattle.arrayvec.specs.ArrayVec.{array_vec_len}
use Rattle.client_runs.specs.Clients.{able_of}
use Rattle.client_runs.proofs.clients.able_now.Given as goal

abbrev pub invariant-loop-number : goal.invariant-loop-number
invariant-loop-number l = record {
  so_far : l.able.items ≡ able_of 0 (take l.number l.all);
  room : array_vec_len l.able ≤ l.number;
}

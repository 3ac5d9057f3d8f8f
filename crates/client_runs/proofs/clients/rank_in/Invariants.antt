use Rattle.std.proofs.Common.{◌≡◌, ◌+◌, drop}
use Rattle.client_runs.specs.Clients.{below}
use Rattle.client_runs.proofs.clients.rank_in.Given as goal

abbrev pub invariant-loop-at : goal.invariant-loop-at
invariant-loop-at l = below l.client l.able ≡ l.at + below l.client (drop l.at l.able)

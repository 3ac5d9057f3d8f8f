use Rattle.std.proofs.Common.{◌≡◌, false, length}
use Rattle.std.specs.Vec.Iter.{into_iter_items, into_iter_len}
use Rattle.client_runs.specs.Choice.{asks_from}
use Rattle.client_runs.proofs.client.next_command.Given as goal

abbrev pub invariant-lines : goal.invariant-lines
invariant-lines l = record {
  left : asks_from l.waits (into_iter_items l.rest) ≡ asks_from false (into_iter_items l.initial.rest);
  size : length (into_iter_items l.rest) ≡ into_iter_len l.rest;
}

abbrev pub decreases-lines : goal.decreases-lines
decreases-lines l = into_iter_len l.rest

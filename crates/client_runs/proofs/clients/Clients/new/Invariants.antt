use Rattle.std.proofs.Common.{◌≡◌, length, map}
use Rattle.std.specs.Vec.Iter.{into_iter_items, into_iter_len}
use Rattle.client_runs.proofs.ClientLemmas.{IsMaking}
use Rattle.client_runs.proofs.clients.Clients.new.Given as goal

abbrev pub invariant-scripts : goal.invariant-scripts
invariant-scripts l = record {
  making : IsMaking (map (λ s. s.items) (into_iter_items l.initial.scripts)) l.all.items (map (λ s. s.items) (into_iter_items l.scripts));
  size : length (into_iter_items l.scripts) ≡ into_iter_len l.scripts;
}

abbrev pub decreases-scripts : goal.decreases-scripts
decreases-scripts l = into_iter_len l.scripts

use Rattle.std.proofs.Common.{◌≡◌, drop}
use Rattle.std.specs.List.{AllByRecursion}
use Rattle.row_check.specs.Tallies.{extents_tallied, HasPlaces}
use Rattle.row_check.proofs.tallies.Tallies.name_all.Given as goal

abbrev pub invariant-loop-extent : goal.invariant-loop-extent
invariant-loop-extent l = record {
  so_far : extents_tallied l.self (drop l.extent-index l.extents) ≡ extents_tallied l.initial.self l.extents;
  places : AllByRecursion (λ e. HasPlaces l.self e.body) (drop l.extent-index l.extents);
}

use Rattle.std.proofs.Common.{◌≡◌, ◌≤◌, ◌++◌, length, vec_capacity}
use Rattle.unit_allocator.specs.Prelude.{free_units}
use Rattle.unit_allocator.proofs.Lowest.{free_behind}
use Rattle.unit_allocator.proofs.allocator.Allocator.lowest_units.Given as goal

abbrev pub invariant-loop : goal.invariant-loop
invariant-loop l = record {
  found : free_units l.self ≡ l.units.items ++ free_behind l.self l.from;
  counted : length l.units.items ≡ l.counter;
  room : l.n ≤ vec_capacity l.units;
}

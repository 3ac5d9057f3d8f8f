use Rattle.std.proofs.Common.{◌≡◌, ◌≤◌, ◌++◌, length, vec_len, vec_capacity}
use Rattle.unit_allocator.specs.Prelude.{free_units, taken, units_of}
use Rattle.unit_allocator.proofs.allocator.Allocator.take.Given as goal

abbrev pub invariant-loop : goal.invariant-loop
invariant-loop l = record {
  units : free_units l.initial.self ≡ units_of l.runs.items ++ free_units l.self;
  counted : length (units_of l.runs.items) ≡ l.counter;
  taken_so_far : l.self ≡ taken l.initial.self (units_of l.runs.items);
  few : vec_len l.runs ≤ l.counter;
  room : l.n ≤ vec_capacity l.runs;
}

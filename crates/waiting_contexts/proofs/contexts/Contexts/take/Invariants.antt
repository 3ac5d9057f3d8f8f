use Rattle.std.proofs.Common.{◌≡◌, ◌+◌, ◌++◌}
use Rattle.std.specs.Vec.{vec_len, vec_capacity}
use Rattle.store_steps.specs.Prelude.{choice, left_by}
use Rattle.waiting_contexts.proofs.contexts.Contexts.take.Given as goal

abbrev pub invariant-loop : goal.invariant-loop
invariant-loop l = record {
  taken : l.list.items ≡ l.fn.list.items ++ choice l.counter l.fn.self;
  left : l.self ≡ left_by l.counter l.fn.self;
  grown : vec_len l.list ≡ vec_len l.fn.list + l.counter;
  room : vec_capacity l.list ≡ vec_capacity l.fn.list;
}

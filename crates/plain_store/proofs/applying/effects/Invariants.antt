use Rattle.std.proofs.Common.{◌≡◌, drop}
use Rattle.object_model.specs.Prelude.{effects}
use Rattle.plain_store.proofs.applying.effects.Given as goal

abbrev pub invariant-loop-op : goal.invariant-loop-op
invariant-loop-op l = effects (drop l.op-index l.ops) l.c ≡ effects l.ops l.fn.start

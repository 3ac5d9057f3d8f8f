use Rattle.std.proofs.Common.{◌≡◌, drop}
use Rattle.object_model.specs.Prelude.{with_pairs}
use Rattle.plain_store.proofs.object.set_pairs.Given as goal

abbrev pub invariant-loop-pair : goal.invariant-loop-pair
invariant-loop-pair l = with_pairs l.omap (drop l.pair-index l.pairs) ≡ with_pairs l.fn.omap l.pairs

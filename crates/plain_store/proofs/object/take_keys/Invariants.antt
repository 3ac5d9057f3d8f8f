use Rattle.std.proofs.Common.{◌≡◌, drop}
use Rattle.object_model.specs.Prelude.{without_keys}
use Rattle.plain_store.proofs.object.take_keys.Given as goal

abbrev pub invariant-loop-key : goal.invariant-loop-key
invariant-loop-key l = without_keys l.omap (drop l.key-index l.keys) ≡ without_keys l.fn.omap l.keys

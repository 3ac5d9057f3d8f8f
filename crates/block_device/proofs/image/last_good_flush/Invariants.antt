use Rattle.std.proofs.Common.{◌≡◌, ℕ, ◌≤◌, Some, true}
use Rattle.std.specs.Prelude.{Contains, slice_get}
use Rattle.block_device.specs.declared.event.Event.TheVariants.{Flush, Done}
use Rattle.block_device.proofs.image.last_good_flush.Given as goal

abbrev pub invariant-loop-place : goal.invariant-loop-place
invariant-loop-place l = (flush : ℕ) → l.place ≤ flush → slice_get l.log flush ≡ Some Flush → Contains l.log (Done flush true) → ⊥

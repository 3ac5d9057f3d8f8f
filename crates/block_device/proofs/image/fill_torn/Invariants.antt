use Rattle.std.proofs.Common.{◌≡◌, ◌<◌, ℕ, length, true, false}
use Rattle.byte_maps.specs.Units.{unit_at}
use Rattle.block_device.specs.Prelude.{mark}
use Rattle.block_device.proofs.image.fill_torn.Given as goal

abbrev pub invariant-loop-k : goal.invariant-loop-k
invariant-loop-k l = record {
  size : length l.image ≡ length l.initial.image;
  others : (unit : ℕ) → mark l.torn unit ≡ false → unit_at unit l.image ≡ unit_at unit l.initial.image;
  filled : (unit : ℕ) → unit < l.k → mark l.torn unit ≡ true → unit_at unit l.image ≡ l.filling;
}

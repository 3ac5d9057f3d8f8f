-- Why units aren't taken.
use Rattle.std.specs.Prelude.{◌≡◌, ℕ, ◌<◌, ◌≤◌}
use Rattle.unit_allocator.specs.declared.allocator.TakeFail.{TakeFail}
use Rattle.unit_allocator.specs.declared.allocator.TakeFail.TheVariants.{NoSpace, Memory}

-- of `count` free units `n` aren't taken: want of space comes exactly where they are fewer, and says both numbers
abbrev pub FailsBy : TakeFail → ℕ → ℕ → Type 0
FailsBy (NoSpace need free) n count = (need ≡ n) × (free ≡ count) × (count < n)
FailsBy Memory n count = n ≤ count

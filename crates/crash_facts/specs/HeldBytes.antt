-- The bytes that units hold, or are to hold.
use Rattle.std.specs.Prelude.{ℕ, ◌==◌, List, [], ◌∷◌, if◌then◌else◌}
use Rattle.std.specs.List.{flat_map}
use Rattle.block_device.specs.Prelude.{History, last_at}
use Rattle.plan_rows.specs.declared.plan.FreshUnit.{FreshUnit}
use Rattle.store_steps.specs.Prelude.{Intent}

-- the bytes of units, where fresh ones have theirs and all others those given
abbrev pub bytes_with : List FreshUnit → (ℕ → List ℕ) → ℕ → List ℕ
bytes_with [] at unit = at unit
bytes_with (f ∷ more) at unit = if f.unit == unit then f.bytes else bytes_with more at unit

-- the fresh units of intents
abbrev pub fresh_by : List Intent → List FreshUnit
fresh_by xs = flat_map (λ x. x.fresh) xs

-- the bytes of units once all data writes of the intents have reached the device
abbrev pub held_or_last : History → List Intent → ℕ → List ℕ
held_or_last h xs = bytes_with (fresh_by xs) (last_at h)

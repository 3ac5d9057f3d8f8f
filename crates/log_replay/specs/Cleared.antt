-- The two halves of making a store: its first units are cleared, and its slot is written.
use Rattle.std.specs.Prelude.{◌≡◌, ℕ, ◌<◌}
use Rattle.block_device.specs.Prelude.{IsClean, History, last_at}
use Rattle.meta_log.specs.Prelude.{super_bytes}
use Rattle.log_replay.specs.Zeroing.{IsZero}
use Rattle.log_replay.specs.NewSuper.{new_super}

-- no unit is dirty
abbrev pub IsAllClean : History → Type 0
IsAllClean h = (unit : ℕ) → IsClean h.log unit

-- where nothing was dirty, nothing is, and the units below one are zero
pub record WasCleared (below : ℕ) (old new : History) : Type 0 where
  pub clean : IsAllClean old → IsAllClean new
  pub zero : IsAllClean old → (unit : ℕ) → unit < below → IsZero new unit

-- where nothing was dirty, nothing is, and slot 0 holds the super of a new store; all else is as before
pub record WasMade (units half prefer : ℕ) (old new : History) : Type 0 where
  pub clean : IsAllClean old → IsAllClean new
  pub slot : last_at new 0 ≡ super_bytes (new_super units half prefer)
  pub others : (unit : ℕ) → 0 < unit → last_at new unit ≡ last_at old unit

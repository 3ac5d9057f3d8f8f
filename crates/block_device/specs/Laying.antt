-- How the code lays a log over the start contents: what one write leaves of each unit and of its mark.
use Rattle.std.specs.Prelude.{◌≡◌, ℕ, ◌-◌, ◌%◌, ◌==◌, ◌<◌, ◌≤◌, if◌then◌else◌, List, Bool, true, false, not, ◌&&◌, ◌||◌, length, slice_index_or, slice_get, Some, Contains}
use Rattle.byte_maps.specs.Units.{unit_at, Covers}
use Rattle.block_device.specs.declared.event.Event.{Event}
use Rattle.block_device.specs.declared.event.Event.TheVariants.{Flush, Done}
use Rattle.block_device.specs.declared.image.Tear.{Tear}
use Rattle.block_device.specs.declared.image.Tear.TheVariants.{Old, New, First, Odd, Noise}

-- the place of the last flush with a good Done, or 0
pub record IsLastGoodFlush (log : List Event) (place : ℕ) : Type 0 where
  pub within : place ≤ length log
  pub good : 0 < place → (slice_get log place ≡ Some Flush) × Contains log (Done place true)
  pub last : (flush : ℕ) → slice_get log flush ≡ Some Flush → Contains log (Done flush true) → flush ≤ place

-- whether unit j of a write is laid, by whether the write is stable and the unit was torn before
abbrev pub is_laid : Tear → Bool → Bool → ℕ → Bool
is_laid Old stable torn j = stable && not torn
is_laid New stable torn j = true
is_laid First stable torn j = stable || (j == 0)
is_laid Odd stable torn j = stable || (j % 2 == 1)
is_laid Noise stable torn j = stable && not torn

-- the mark of unit k: an unstable write covered it
abbrev pub mark : List Bool → ℕ → Bool
mark torn k = slice_index_or torn k false

-- unit j of a write, laid over these bytes of unit k or not
abbrev pub laid_unit : Tear → Bool → Bool → ℕ → List ℕ → List ℕ → List ℕ
laid_unit tear stable torn j bytes old = (if is_laid tear stable torn j then unit_at j bytes else old)

-- a write was laid
pub record IsPut (tear : Tear) (at : ℕ) (bytes : List ℕ) (stable : Bool) (old new : List ℕ) (torn_old torn_new : List Bool) : Type 0 where
  pub size : length new ≡ length old
  pub marks : length torn_new ≡ length torn_old
  pub others : (k : ℕ) → ¬ Covers at bytes k → unit_at k new ≡ unit_at k old
  pub other_marks : (k : ℕ) → ¬ Covers at bytes k → mark torn_new k ≡ mark torn_old k
  pub written : (k : ℕ) → Covers at bytes k → unit_at k new ≡ laid_unit tear stable (mark torn_old k) (k - at) bytes (unit_at k old)
  pub torn : (k : ℕ) → Covers at bytes k → mark torn_new k ≡ (mark torn_old k || not stable)

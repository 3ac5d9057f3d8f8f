-- The store that is found on a device, as the code has it.
use Rattle.std.specs.Prelude.{◌≡◌, ◌≤◌, ℕ, ◌+◌, ◌-◌, ◌*◌, List, [], drop}
use Rattle.block_device.specs.Prelude.{Disk, History}
use Rattle.meta_rows.specs.Prelude.{RowsFit}
use Rattle.meta_log.specs.Prelude.{active_half, IsSuper, active_unit}
use Rattle.unit_allocator.specs.Prelude.{Space}
use Rattle.store_steps.specs.Prelude.{Found, HoldsAreCounted, rows_units}
use Rattle.plan_rows.specs.Prelude.{IsGood}
use Rattle.run_facts.specs.Prelude.{IsSpaceOf}
use Rattle.log_replay.specs.Opening.{IsAbout, IsFoundIn, HasLowNumbers, AreUnmarkedIdle, AreUnmarkedFree}
use Rattle.log_replay.specs.Stale.{AreNotZero}
use Rattle.log_replay.specs.Clearing.{IsCleared, ClearsSoFar}
use Rattle.log_replay.specs.declared.replaying.FoundStore.{FoundStore}

-- what was found, without the bytes that it was read from
abbrev pub as_found : FoundStore → Found
as_found s = record { sup = s.sup; rows = s.log.rows.rows; tail = s.log.tail; number = s.log.number; stale = [] }

-- the first unit behind its records, the end of the half, and of the bytes of the half those between
abbrev pub first_behind : FoundStore → ℕ
first_behind s = active_unit s.sup + s.log.tail

abbrev pub half_end : FoundStore → ℕ
half_end s = active_unit s.sup + s.sup.half

abbrev pub rest_of : List ℕ → FoundStore → List ℕ
rest_of half s = drop (4096 * s.log.tail) half

-- of the units of a half of these bytes, those behind its records that aren't zero are the ones that were found
abbrev pub AreStaleOf : List ℕ → FoundStore → Type 0
AreStaleOf half s = AreNotZero (first_behind s) (half_end s - first_behind s) (rest_of half s) s.stale.items

-- It fits the device, and its rows as one record have a spelling and take no more units than its records do; and where nothing was dirty it is
-- what the contents hold, down to the units behind its records that aren't zero.
pub record IsFoundOn (d : Disk) (s : FoundStore) : Type 0 where
  pub limits : IsSuper s.sup
  pub units_are : s.sup.units ≡ d.units
  pub tail : s.log.tail ≤ s.sup.half
  pub within : rows_units s.log.rows.rows ≤ s.log.tail
  pub fit : RowsFit s.log.rows.rows
  pub half : List ℕ
  pub stale : AreStaleOf half s
  pub about : IsAbout d (λ contents. IsFoundIn contents (as_found s) × (half ≡ active_half contents s.sup))

-- A kernel can be opened on it, with these idle units: all whose bits are 0. They are held by as many as its rows say, and the free ones are the
-- same.
pub record IsJudged (f : Found) (space : Space) : Type 0 where
  pub good : IsGood f.sup f.rows
  pub numbers : HasLowNumbers f
  pub units : IsSpaceOf f.sup space
  pub idle : AreUnmarkedIdle f space
  pub held : HoldsAreCounted f.sup f.rows space
  pub unmarked : AreUnmarkedFree f space

-- what is behind its records was cleared, in so many events
abbrev pub IsLogCleared : FoundStore → List ℕ → ℕ → History → History → Type 0
IsLogCleared s half count old new = IsCleared (first_behind s) (half_end s) (rest_of half s) count old new

-- or was begun to be, whether it ended well or not
abbrev pub ClearsLog : FoundStore → List ℕ → History → History → Type 0
ClearsLog s half old new = ClearsSoFar (first_behind s) (half_end s) (rest_of half s) old new

-- What a mount finds on a device, and why it doesn't open a store.
use Rattle.std.specs.Prelude.{◌≡◌, ◌⊎◌, ◌↔◌, true, ℕ, ◌+◌, ◌^◌, ◌<◌, ◌≤◌, nat_lt, if◌then◌else◌, List, Option, Some, None, IfSome}
use Rattle.byte_maps.specs.Units.{unit_at, zeros}
use Rattle.block_device.specs.Prelude.{last, Disk, Rose}
use Rattle.meta_rows.specs.Prelude.{Rows}
use Rattle.meta_log.specs.declared.slot.Super.{Super}
use Rattle.meta_log.specs.Prelude.{active_half, width_of, IsValidSlot, IsActiveSlot, active_unit}
use Rattle.row_format.specs.Prelude.{shared_key}
use Rattle.store_image.specs.Prelude.{HasKey, NoBadRow, IsDataUnit, IsMarked, IsExactAs, IsLeastInexact}
use Rattle.unit_allocator.specs.Prelude.{Space, is_idle, is_free}
use Rattle.row_check.specs.Bad.{IsLeastBad}
use Rattle.store_steps.specs.Prelude.{Found}
use Rattle.log_replay.specs.Cleared.{IsAllClean}
use Rattle.log_replay.specs.Replaying.{IsReplay}
use Rattle.log_replay.specs.declared.opening.MountFail.{MountFail}
use Rattle.log_replay.specs.declared.opening.MountFail.TheVariants.{Memory, NoSuper, BadRow, NotExact, WornOut, Fault}

-- P holds of what was last written, where the device tells it and no unit is dirty
abbrev pub IsAbout : Disk → (List ℕ → Type 0) → Type 0
IsAbout d P = IfSome d.history (λ h. IsAllClean h → P (last h.start h.log))

-- neither slot is valid
abbrev pub HasNoSuper : List ℕ → Type 0
HasNoSuper contents = (at : ℕ) (s : Super) → at < 2 → ¬ IsValidSlot contents at s

-- so many units from one on are zero
abbrev pub AreZero : ℕ → ℕ → List ℕ → Type 0
AreZero first count contents = (unit : ℕ) → first ≤ unit → unit < first + count → unit_at unit contents ≡ zeros 4096

-- of two supers the one of greater epoch
abbrev pub newer_of : Option Super → Option Super → Option Super
newer_of None second = second
newer_of (Some a) None = Some a
newer_of (Some a) (Some b) = if nat_lt a.epoch b.epoch then Some b else Some a

-- the active half has no record and nothing else
abbrev pub IsLogEmpty : List ℕ → Super → Type 0
IsLogEmpty contents s = AreZero (active_unit s) s.half contents

-- The contents are those of a store: this is its active slot, and the records of the active half make these rows, take so many units, and
-- the next one has this number.
pub record IsFoundIn (contents : List ℕ) (f : Found) : Type 0 where
  pub active : IsActiveSlot contents f.sup
  pub replay : IsReplay (active_half contents f.sup) f.sup.first f.rows f.tail f.number

-- a shared blob of this number has a row
abbrev pub HasBlob : Rows → ℕ → Type 0
HasBlob rows sbid = (sbid < 2 ^ 64) × HasKey rows (shared_key sbid)

-- it is the greatest number of a shared blob
pub record IsLastBlob (rows : Rows) (sbid : ℕ) : Type 0 where
  pub has : HasBlob rows sbid
  pub last : (other : ℕ) → HasBlob rows other → other ≤ sbid

-- it is the number of the next shared blob: the one behind the greatest of the rows, or 1 where there is none
pub data IsNextBlob (rows : Rows) : ℕ → Type 0 where
  first : ((sbid : ℕ) → ¬ HasBlob rows sbid) → IsNextBlob rows 1
  behind : (sbid : ℕ) → IsLastBlob rows sbid → IsNextBlob rows (sbid + 1)

-- the numbers leave room for those to come, which stay below 2^62
pub record HasLowNumbers (f : Found) : Type 0 where
  pub epoch : f.sup.epoch < 2 ^ 61
  pub number : f.number < 2 ^ 61
  pub blobs : (sbid : ℕ) → HasBlob f.rows sbid → sbid < 2 ^ 61

-- the first of the epoch, the next record's number and the greatest number of a shared blob that leaves none
abbrev pub IsWornOut : Found → ℕ → Type 0
IsWornOut f value =
    ((2 ^ 61 ≤ f.sup.epoch) × (value ≡ f.sup.epoch)) ⊎ ((f.sup.epoch < 2 ^ 61) × (2 ^ 61 ≤ f.number) × (value ≡ f.number))
    ⊎ ((f.sup.epoch < 2 ^ 61) × (f.number < 2 ^ 61) × (2 ^ 61 ≤ value) × IsLastBlob f.rows value)

-- the idle data units are exactly those whose bits are 0
abbrev pub AreUnmarkedIdle : Found → Space → Type 0
AreUnmarkedIdle f space = (unit : ℕ) → IsDataUnit f.sup unit → (is_idle space unit ≡ true) ↔ (¬ IsMarked f.rows unit)

-- and so are the free ones
abbrev pub AreUnmarkedFree : Found → Space → Type 0
AreUnmarkedFree f space = (unit : ℕ) → IsDataUnit f.sup unit → (is_free space unit ≡ true) ↔ (¬ IsMarked f.rows unit)

-- Why what was found isn't opened.
abbrev pub IsMountRefused : MountFail → Found → Type 0
IsMountRefused Memory f = Unit {0}
IsMountRefused NoSuper f = ⊥
IsMountRefused (BadRow key) f = IsLeastBad f.sup f.rows key
IsMountRefused (NotExact unit) f = NoBadRow f.sup f.rows × IsLeastInexact (width_of f.sup) f.rows unit
IsMountRefused (WornOut value) f = NoBadRow f.sup f.rows × IsExactAs (width_of f.sup) f.rows f.rows × IsWornOut f value
IsMountRefused Fault f = ⊥

-- why no store is found at all
abbrev pub IsUnfound : MountFail → Type 0
IsUnfound Memory = Unit {0}
IsUnfound NoSuper = Unit {0}
IsUnfound (BadRow key) = ⊥
IsUnfound (NotExact unit) = ⊥
IsUnfound (WornOut value) = ⊥
IsUnfound Fault = Unit {0}

-- Why a mount opens no store, by the contents.
abbrev pub IsUnopenable : MountFail → List ℕ → Type 0
IsUnopenable Memory contents = Unit {0}
IsUnopenable NoSuper contents = HasNoSuper contents
IsUnopenable (BadRow key) contents = (f : Found) × IsFoundIn contents f × IsMountRefused (BadRow key) f
IsUnopenable (NotExact unit) contents = (f : Found) × IsFoundIn contents f × IsMountRefused (NotExact unit) f
IsUnopenable (WornOut value) contents = (f : Found) × IsFoundIn contents f × IsMountRefused (WornOut value) f
IsUnopenable Fault contents = Unit {0}

-- The cause of each answer: of a fault that the count rose, of the others what the device holds.
abbrev pub FailsMount : MountFail → Disk → ℕ → ℕ → Type 0
FailsMount Fault d before now = Rose before now
FailsMount fail d before now = IsAbout d (IsUnopenable fail)

-- a mount that fails so has submitted nothing
abbrev pub SubmitsNothing : MountFail → Type 0
SubmitsNothing Memory = ⊥
SubmitsNothing NoSuper = Unit {0}
SubmitsNothing (BadRow key) = Unit {0}
SubmitsNothing (NotExact unit) = Unit {0}
SubmitsNothing (WornOut value) = Unit {0}
SubmitsNothing Fault = ⊥

-- A half of the log as it is read, piece by piece.
use Rattle.std.specs.Prelude.{◌≡◌, ℕ, ◌+◌, ◌-◌, ◌*◌, ◌<◌, ◌≤◌, Bool, true, false, List, [], ◌++◌, length, drop}
use Rattle.byte_maps.specs.Units.{unit_at, units_from, IsUnits}
use Rattle.block_device.specs.Prelude.{Disk}
use Rattle.meta_rows.specs.declared.row_op.RowOp.{RowOp}
use Rattle.meta_log.specs.Prelude.{unit_count, BeginsWithRecord}
use Rattle.log_replay.specs.Opening.{IsAbout}
use Rattle.log_replay.specs.Replaying.{IsReplay}
use Rattle.log_replay.specs.Stale.{AddsStale, AreNotZero}
use Rattle.log_replay.specs.declared.half_reader.HalfReader.{HalfReader}
use Rattle.log_replay.specs.declared.replaying.Replayed.{Replayed}

-- the units from one on have these bytes
abbrev pub HasPiece : ℕ → ℕ → List ℕ → List ℕ → Type 0
HasPiece at count bytes contents = (k : ℕ) → k < count → unit_at (at + k) contents ≡ unit_at k bytes

-- the bytes are those of so many units from one on, where nothing is dirty
pub record AreUnitsFrom (first count : ℕ) (bytes : List ℕ) (d : Disk) : Type 0 where
  pub size : IsUnits count bytes
  pub pieces : IsAbout d (HasPiece first count bytes)

-- the bytes that were read and not passed over
abbrev pub bytes_not_passed : HalfReader → List ℕ
bytes_not_passed h = drop h.start h.bytes.items

-- They are those of the units from `at` to before `next`.
pub record IsReader (h : HalfReader) : Type 0 where
  pub read : h.at ≤ h.next
  pub more : h.next ≤ h.end
  pub start : h.start ≤ length h.bytes.items
  pub size : IsUnits (h.next - h.at) (bytes_not_passed h)

-- nothing was read of the half from one unit to before another
pub record IsUnread (h : HalfReader) (first end : ℕ) : Type 0 where
  pub at : h.at ≡ first
  pub next : h.next ≡ first
  pub end_is : h.end ≡ end
  pub start : h.start ≡ 0
  pub none : h.bytes.items ≡ []

-- so many units were passed over
pub record Skips (units : ℕ) (old new : HalfReader) : Type 0 where
  pub reader : IsReader new
  pub at : new.at ≡ old.at + units
  pub next : new.next ≡ old.next
  pub end_is : new.end ≡ old.end
  pub left : bytes_not_passed new ≡ drop (4096 * units) (bytes_not_passed old)

-- More units were read, or none, and their bytes stand behind the others.
pub record ReadsOn (d : Disk) (old new : HalfReader) : Type 0 where
  pub reader : IsReader new
  pub at : new.at ≡ old.at
  pub end_is : new.end ≡ old.end
  pub order : old.next ≤ new.next
  pub bytes : List ℕ
  pub left : bytes_not_passed new ≡ bytes_not_passed old ++ bytes
  pub units : AreUnitsFrom old.next (new.next - old.next) bytes d

-- whatever the units hold that weren't read, no valid record of this number stands in front
abbrev pub HasNoRecord : HalfReader → ℕ → Type 0
HasNoRecord h number = (more : List ℕ) (ops : List RowOp) (rest : List ℕ) → IsUnits (h.end - h.next) more
    → ¬ BeginsWithRecord (bytes_not_passed h ++ more) number ops rest

-- a record that stands in front was read to its end
abbrev pub HoldsRecord : HalfReader → ℕ → Type 0
HoldsRecord h number = (more : List ℕ) (ops : List RowOp) (rest : List ℕ) → BeginsWithRecord (bytes_not_passed h ++ more) number ops rest
    → 4096 * unit_count number ops ≤ length (bytes_not_passed h)

-- A record of this number was read to its end, if it stands in front; or none stands there.
abbrev pub MayStand : Bool → HalfReader → ℕ → Type 0
MayStand true h number = HoldsRecord h number
MayStand false h number = HasNoRecord h number

-- The units from one to before another were read, and those that aren't zero were added.
pub record AddsUnits (d : Disk) (first end : ℕ) (old new : List ℕ) : Type 0 where
  pub bytes : List ℕ
  pub units : AreUnitsFrom first (end - first) bytes d
  pub adds : AddsStale first (end - first) bytes old new

-- What wasn't read of the half was read too. These are the units that aren't zero and weren't passed over.
pub record HasStale (d : Disk) (h : HalfReader) (units : List ℕ) : Type 0 where
  pub more : List ℕ
  pub read : AreUnitsFrom h.next (h.end - h.next) more d
  pub stale : AreNotZero h.at (h.end - h.at) (bytes_not_passed h ++ more) units

-- The records in front, the first of which has this number, were read and passed over, and these are all: they make this.
pub record HasReplayed (d : Disk) (old : HalfReader) (first : ℕ) (new : HalfReader) (log : Replayed) : Type 0 where
  pub reader : IsReader new
  pub end_is : new.end ≡ old.end
  pub order : old.at ≤ new.next
  pub bytes : List ℕ
  pub read : AreUnitsFrom old.at (new.next - old.at) bytes d
  pub at : new.at ≡ old.at + log.tail
  pub left : bytes_not_passed new ≡ drop (4096 * log.tail) bytes
  pub all : (more : List ℕ) → IsUnits (new.end - new.next) more → IsReplay (bytes ++ more) first log.rows.rows log.tail log.number

-- The half of so many units from one on was read: its records, the first of which has this number, make this, and these units behind them aren't zero.
pub record IsHalfRead (d : Disk) (first count number : ℕ) (log : Replayed) (units : List ℕ) : Type 0 where
  pub half : List ℕ
  pub size : IsUnits count half
  pub read : IsAbout d (λ contents. half ≡ units_from first count contents)
  pub replay : IsReplay half number log.rows.rows log.tail log.number
  pub stale : AreNotZero (first + log.tail) (count - log.tail) (drop (4096 * log.tail) half) units

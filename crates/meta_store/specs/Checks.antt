-- A checkpoint of the rows, while it is written into the other half.
use Rattle.std.specs.Prelude.{◌≡◌, ℕ, ◌+◌, ◌*◌, ◌%◌, ◌<◌, ◌≤◌, nat_lt, List, length, slice_get, Option, Some, None, IfSome, MatchOption, if◌then◌else◌}
use Rattle.std.specs.Option.{option_map}
use Rattle.byte_maps.specs.Units.{unit_at, zeros}
use Rattle.meta_rows.specs.Prelude.{Rows}
use Rattle.meta_log.specs.declared.runs.UnitRun.{UnitRun}
use Rattle.meta_log.specs.Prelude.{piece_count, piece_bytes, sealed_units, TableRecord, sealed_of, other_unit, data_unit, next_super, check_records, check_units, target_unit, front_run}
use Rattle.meta_store.specs.Store.{Meta, Checking, checkpoint_pieces}

-- the record of the rows once so many pieces of a checkpoint were given; none where none of its pieces is left
abbrev pub record_left : ℕ → Rows → ℕ → Option TableRecord
record_left number rows given =
    if nat_lt given (piece_count (check_units number rows)) then Some (record { rows = rows; number = number; given = given }) else None

-- the store with a checkpoint open, of which nothing is given
abbrev pub with_check : Meta → Meta
with_check m = record m { check = Some (record { given = 0; written = 0 }) }

-- how many pieces the store's checkpoint has
abbrev pub check_count : Meta → ℕ
check_count m = length (checkpoint_pieces m.number m.rows m.stale)

-- no checkpoint is open, or each piece was given
abbrev pub IsCheckGiven : Meta → Type 0
IsCheckGiven m = IfSome m.check (λ c. c.given ≡ check_count m)

-- a checkpoint is open, and not each piece was given
abbrev pub IsCheckLeft : Meta → Type 0
IsCheckLeft m = MatchOption m.check ⊥ (λ c. c.given < check_count m)

-- a checkpoint is open, and not each piece that was given is written
abbrev pub IsCheckOut : Meta → Type 0
IsCheckOut m = MatchOption m.check ⊥ (λ c. c.written < c.given)

-- a checkpoint is open, and each of its pieces is written
abbrev pub IsCheckWritten : Meta → Type 0
IsCheckWritten m = MatchOption m.check ⊥ (λ c. c.written ≡ check_count m)

-- these bytes, to be written from this unit of the device on, are the checkpoint's next piece: so many units, each as the half is to hold it
pub record IsNextCheck (m : Meta) (unit : ℕ) (bytes : List ℕ) : Type 0 where
  pub now : Checking
  pub is_open : m.check ≡ Some now
  pub run : UnitRun
  pub is_next : slice_get (checkpoint_pieces m.number m.rows m.stale) now.given ≡ Some run
  pub unit_is : unit ≡ other_unit m.sup + run.first
  pub size : length bytes ≡ 4096 * run.count
  pub bytes_are : (j : ℕ) → j < run.count → unit_at j bytes ≡ target_unit (check_units m.number m.rows) m.number (check_records m.rows) (run.first + j)

-- the record of the rows as it is once the next piece is given
abbrev pub IsLeftThen : Meta → Option TableRecord → Type 0
IsLeftThen m left = IfSome m.check (λ c. left ≡ record_left m.number m.rows (c.given + 1))

-- where these bytes lie when they are written from this unit on: whole units, at most 64 of them, in the other half
pub record LiesInOtherHalf (m : Meta) (unit : ℕ) (bytes : List ℕ) : Type 0 where
  pub some : 0 < length bytes
  pub few : length bytes ≤ 4096 * 64
  pub whole : length bytes % 4096 ≡ 0
  pub from : other_unit m.sup ≤ unit
  pub in_half : 4096 * unit + length bytes ≤ 4096 * (other_unit m.sup + m.sup.half)
  pub in_log : 4096 * unit + length bytes ≤ 4096 * data_unit m.sup

-- one more piece was given
abbrev pub with_check_given : Meta → Meta
with_check_given m = record m { check = option_map (λ (c : Checking). record c { given = c.given + 1 }) m.check }

-- one more piece is written
abbrev pub with_check_written : Meta → Meta
with_check_written m = record m { check = option_map (λ (c : Checking). record c { written = c.written + 1 }) m.check }

-- the halves have changed places: the log is the checkpoint's record, and what is stale is the records of the half that was left
abbrev pub switched_log : Meta → Meta
switched_log m = record m {
  sup = next_super m.sup m.number;
  tail = check_units m.number m.rows;
  number = m.number + length (check_records m.rows);
  stale = front_run m.tail;
  check = None;
}

-- how many units what is left of a record is of
abbrev pub units_left : Option TableRecord → ℕ
units_left None = 0
units_left (Some r) = sealed_units (sealed_of r)

-- what a piece of a checkpoint has: that of the record, where there is one left, or so many units of zeros
abbrev pub left_bytes : Option TableRecord → ℕ → List ℕ
left_bytes None count = zeros (4096 * count)
left_bytes (Some r) count = piece_bytes (sealed_of r) r.given

-- the record once its next piece is given; none where that was the last
abbrev pub left_then : Option TableRecord → Option TableRecord
left_then None = None
left_then (Some r) = if nat_lt (r.given + 1) (piece_count (sealed_units (sealed_of r))) then Some (record r { given = r.given + 1 }) else None

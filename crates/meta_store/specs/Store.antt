-- The rows and where the log stands, as one value.
use Rattle.std.specs.Prelude.{◌≡◌, ℕ, ◌+◌, ◌-◌, ◌*◌, ◌%◌, ◌<◌, ◌≤◌, List, length, Option, Some, None, IfSome, OnSome, MatchOption}
use Rattle.std.specs.Option.{option_map}
use Rattle.meta_rows.specs.declared.row_op.RowOp.{RowOp}
use Rattle.meta_rows.specs.Prelude.{Rows, rows_after, row_sets, RowsFit}
use Rattle.meta_log.specs.declared.slot.Super.{Super}
use Rattle.meta_log.specs.declared.runs.UnitRun.{UnitRun}
use Rattle.meta_log.specs.Prelude.{unit_count, piece_count, piece_first, IsSealable, piece_bytes, IsSuper, active_unit, data_unit, next_super, check_units, check_runs, AreRunsFrom}

-- a record that is being written: its operations, and how many of its pieces were given and how many of these are written
pub record Begun : Type 0 where
  pub ops : List RowOp
  pub given : ℕ
  pub written : ℕ

-- a checkpoint that is being written: how many of its pieces were given and how many of these are written
pub record Checking : Type 0 where
  pub given : ℕ
  pub written : ℕ

-- the store: the committed rows, the units of the records in the active half, the next record's number, the units set aside for
-- transactions to come, the record that is being written, runs of units of the other half that may not be zero, and the checkpoint that is
-- being written there
pub record Meta : Type 0 where
  pub sup : Super
  pub rows : Rows
  pub tail : ℕ
  pub number : ℕ
  pub reserved : ℕ
  pub begun : Option Begun
  pub stale : List UnitRun
  pub check : Option Checking

-- how many pieces the record has that is being written
abbrev pub piece_count_of : Meta → Begun → ℕ
piece_count_of m b = piece_count (unit_count m.number b.ops)

-- what is known of a record that is being written behind this tail
pub record IsBegun (half tail number : ℕ) (b : Begun) : Type 0 where
  pub sealable : IsSealable number b.ops
  pub fits : tail + unit_count number b.ops ≤ half
  pub given_most : b.given ≤ piece_count (unit_count number b.ops)
  pub written_most : b.written ≤ b.given

-- the pieces of a checkpoint of these rows under this number, where these runs of the other half are stale
abbrev pub checkpoint_pieces : ℕ → Rows → List UnitRun → List UnitRun
checkpoint_pieces number rows stale = check_runs (check_units number rows) stale

-- what is known of a checkpoint that is being written
pub record IsChecking (sup : Super) (number : ℕ) (rows : Rows) (stale : List UnitRun) (c : Checking) : Type 0 where
  pub next_limits : IsSuper (next_super sup number)
  pub sealable : IsSealable number (row_sets rows)
  pub fits : check_units number rows ≤ sup.half
  pub given_most : c.given ≤ length (checkpoint_pieces number rows stale)
  pub written_most : c.written ≤ c.given

-- What is known of every store. A record and a checkpoint aren't written at once.
pub record IsMeta (m : Meta) : Type 0 where
  pub limits : IsSuper m.sup
  pub rows_fit : RowsFit m.rows
  pub tail_most : m.tail ≤ m.sup.half
  pub begun_fits : IfSome m.begun (IsBegun m.sup.half m.tail m.number)
  pub stale_fits : AreRunsFrom 0 m.sup.half m.stale
  pub check_fits : IfSome m.check (IsChecking m.sup m.number m.rows m.stale)
  pub alone : OnSome m.begun (m.check ≡ None)

-- a store with these rows, units of records and stale units, where nothing is set aside, and neither record nor checkpoint is begun
abbrev pub found_meta : Super → Rows → ℕ → ℕ → List UnitRun → Meta
found_meta s rows tail number stale = record {
  sup = s;
  rows = rows;
  tail = tail;
  number = number;
  reserved = 0;
  begun = None;
  stale = stale;
  check = None;
}

-- the units of a half that neither the rows take as one record, nor are set aside
abbrev pub room_of : Meta → ℕ
room_of m = m.sup.half - check_units m.number m.rows - m.reserved

-- the store with a record begun, of which nothing is given
abbrev pub with_begun : Meta → List RowOp → Meta
with_begun m ops = record m { begun = Some (record { ops = ops; given = 0; written = 0 }) }

-- nothing is begun, or each piece was given
abbrev pub IsRecordGiven : Meta → Type 0
IsRecordGiven m = MatchOption m.begun (Unit {0}) (λ b. b.given ≡ piece_count_of m b)

-- a record is begun, and not each piece was given
abbrev pub IsPieceLeft : Meta → Type 0
IsPieceLeft m = MatchOption m.begun ⊥ (λ b. b.given < piece_count_of m b)

-- a record is begun, and not each piece that was given is written
abbrev pub IsPieceOut : Meta → Type 0
IsPieceOut m = MatchOption m.begun ⊥ (λ b. b.written < b.given)

-- a record is begun, and each of its pieces is written
abbrev pub IsAllWritten : Meta → Type 0
IsAllWritten m = MatchOption m.begun ⊥ (λ b. b.written ≡ piece_count_of m b)

-- these bytes, to be written from this unit of the device on, are the next piece
pub record IsNextPiece (m : Meta) (unit : ℕ) (bytes : List ℕ) : Type 0 where
  pub now : Begun
  pub is_begun : m.begun ≡ Some now
  pub left : now.given < piece_count_of m now
  pub unit_is : unit ≡ active_unit m.sup + m.tail + piece_first (unit_count m.number now.ops) now.given
  pub bytes_are : bytes ≡ piece_bytes (record { number = m.number; ops = now.ops }) now.given

-- where these bytes lie when they are written from this unit on: whole units, at most 64 of them, behind the tail and in the active half
pub record LiesBehindTail (m : Meta) (unit : ℕ) (bytes : List ℕ) : Type 0 where
  pub some : 0 < length bytes
  pub few : length bytes ≤ 4096 * 64
  pub whole : length bytes % 4096 ≡ 0
  pub behind : active_unit m.sup + m.tail ≤ unit
  pub in_half : 4096 * unit + length bytes ≤ 4096 * (active_unit m.sup + m.sup.half)
  pub in_log : 4096 * unit + length bytes ≤ 4096 * data_unit m.sup

-- one more piece was given
abbrev pub with_given : Meta → Meta
with_given m = record m { begun = option_map (λ (b : Begun). record b { given = b.given + 1 }) m.begun }

-- one more piece is written
abbrev pub with_written : Meta → Meta
with_written m = record m { begun = option_map (λ (b : Begun). record b { written = b.written + 1 }) m.begun }

-- the record's operations are committed
abbrev pub with_committed : Meta → Begun → Meta
with_committed m b = record m { rows = rows_after m.rows b.ops; tail = m.tail + unit_count m.number b.ops; number = m.number + 1; begun = None }

-- the store once the record that was begun is stable
abbrev pub with_record_stable : Meta → Option Begun → Meta
with_record_stable m None = m
with_record_stable m (Some b) = with_committed m b

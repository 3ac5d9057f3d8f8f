-- What is known of the active half of the log: the records that stand there, a record that is being written, and zeros.
use Rattle.std.specs.Prelude.{◌≡◌, ℕ, ◌+◌, ◌^◌, ◌<◌, ◌≤◌, List, [], ◌∷◌, ◌++◌, length, Option, Some, None, IfSome}
use Rattle.std.specs.FinMap as map
use Rattle.byte_maps.specs.Units.{unit_at, zeros, IsUnits}
use Rattle.block_device.specs.Prelude.{History, last_at, SurelyHolds}
use Rattle.meta_rows.specs.declared.row_op.RowOp.{RowOp}
use Rattle.meta_rows.specs.Prelude.{Rows, rows_of_records, ops_bytes, AllFit}
use Rattle.meta_log.specs.declared.slot.Super.{Super}
use Rattle.meta_log.specs.Prelude.{record_units, unit_count, active_unit, records_units}
use Rattle.log_facts.specs.Flushing.{FlushState, IsFlushed}

-- the number and the operations have a spelling as a record
pub record IsSpellable (number : ℕ) (ops : List RowOp) : Type 0 where
  pub number_below : number < 2 ^ 62
  pub body_below : length (ops_bytes ops) < 2 ^ 32
  pub fit : AllFit ops

-- and so have those of consecutive numbers from this one on
abbrev pub AreSpellable : ℕ → List (List RowOp) → Type 0
AreSpellable number [] = Unit {0}
AreSpellable number (ops ∷ more) = IsSpellable number ops × AreSpellable (number + 1) more

-- the units of the record that is being written, if one is
abbrev pub begun_units : ℕ → Option (List RowOp) → List ℕ
begun_units number None = []
begun_units number (Some ops) = record_units number ops

-- and how many they are
abbrev pub begun_count : ℕ → Option (List RowOp) → ℕ
begun_count number None = 0
begun_count number (Some ops) = unit_count number ops

-- unit k of the active half surely is zero
abbrev pub IsSurelyZero : History → Super → ℕ → Type 0
IsSurelyZero h s k = SurelyHolds h (active_unit s + k) (λ unit. unit ≡ zeros 4096)

-- The records `recs` make the rows, and stand in the first `tail` units of the active half. Behind them a record may be begun, of the
-- next number. It is written from its end towards its start: its units from `given_from` on were given to the device, in writes that the
-- flush `second` is for. Each other unit of the half surely is zero.
pub record ActiveHalfStands (h : History) (s : Super) (rows : Rows) (tail number : ℕ) (begun : Option (List RowOp)) (given_from : ℕ)
    (second : FlushState) (recs : List (List RowOp)) : Type 0 where
  pub made : rows ≡ rows_of_records map.empty recs
  pub next : number ≡ s.first + length recs
  pub spellable : AreSpellable s.first recs
  pub begun_spellable : IfSome begun (λ ops. IsSpellable number ops)
  pub whole : IsUnits tail (records_units s.first recs)
  pub room : tail + begun_count number begun ≤ s.half
  pub part : given_from ≤ begun_count number begun
  pub front : (k : ℕ) → k < tail → SurelyHolds h (active_unit s + k) (λ unit. unit ≡ unit_at k (records_units s.first recs))
  pub zero_before : (j : ℕ) → j < given_from → IsSurelyZero h s (tail + j)
  pub zero_behind : (k : ℕ) → tail + begun_count number begun ≤ k → k < s.half → IsSurelyZero h s k
  pub given : (j : ℕ) → given_from ≤ j → j < begun_count number begun
      → last_at h (active_unit s + (tail + j)) ≡ unit_at j (begun_units number begun)
  pub given_flushed : (j : ℕ) → given_from ≤ j → j < begun_count number begun → IsFlushed h.log second (active_unit s + (tail + j))

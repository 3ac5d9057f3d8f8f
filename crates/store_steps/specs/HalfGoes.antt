-- What a call makes of the active half of the log.
use Rattle.std.specs.Prelude.{◌≡◌, ℕ, ◌+◌, ◌-◌, ◌<◌, ◌≤◌, List, length, Some, None}
use Rattle.byte_maps.specs.Units.{units_from}
use Rattle.block_device.specs.Prelude.{Flight, IsUntouched}
use Rattle.meta_rows.specs.declared.row_op.RowOp.{RowOp}
use Rattle.meta_rows.specs.Prelude.{rows_after}
use Rattle.meta_log.specs.Prelude.{unit_count, record_units, active_unit, next_super, check_records, check_units}
use Rattle.log_facts.specs.Prelude.{not_sent, sent, flushed, IsSpellable}
use Rattle.store_steps.specs.Parts.{HalfPart}
use Rattle.store_steps.specs.Touch.{Touch, nothing, ends, flushes, on_half, IsNoPiece}

-- a piece of the record is submitted: of the units that weren't, those from `from` on
pub record GivesPiece (unit : ℕ) (bytes : List ℕ) (p q : HalfPart) : Type 0 where
  pub ops : List RowOp
  pub begun : p.begun ≡ Some ops
  pub second : p.second ≡ not_sent
  pub from : ℕ
  pub earlier : from ≤ p.from
  pub place : unit ≡ active_unit p.sup + p.tail + from
  pub cut : bytes ≡ units_from from (p.from - from) (record_units p.number ops)
  pub then : q ≡ record p { from = from }

-- the record is committed
abbrev pub moved_on : List RowOp → HalfPart → HalfPart
moved_on ops p = record p {
  rows = rows_after p.rows ops;
  tail = p.tail + unit_count p.number ops;
  number = p.number + 1;
  begun = None;
  from = 0;
  second = not_sent;
}

-- the other half is the active one: it has the rows as one record
abbrev pub half_switched : HalfPart → HalfPart
half_switched p = record p {
  sup = next_super p.sup p.number;
  tail = check_units p.number p.rows;
  number = p.number + length (check_records p.rows);
  begun = None;
  from = 0;
  second = not_sent;
}

-- It stays, with no write in it; a record begins, goes on to the device piece by piece, is flushed, and is committed; or the halves change places.
pub data HalfGoes (flights : List Flight) : Touch → HalfPart → HalfPart → Type 0 where
  same : {t : Touch} {p q : HalfPart} → IsNoPiece t → q ≡ p → HalfGoes flights t p q
  begins : {p q : HalfPart} (ops : List RowOp) → p.begun ≡ None → IsSpellable p.number ops → p.tail + unit_count p.number ops ≤ p.sup.half
      → q ≡ record p { begun = Some ops; from = unit_count p.number ops; second = not_sent } → HalfGoes flights nothing p q
  gives_piece : {p q : HalfPart} (ticket unit : ℕ) (bytes : List ℕ) → GivesPiece unit bytes p q → HalfGoes flights (on_half ticket unit bytes) p q
  syncs : {p q : HalfPart} (ticket : ℕ) (ops : List RowOp) → p.begun ≡ Some ops → p.second ≡ not_sent
      → ((j : ℕ) → p.from ≤ j → j < unit_count p.number ops → IsUntouched flights (active_unit p.sup + (p.tail + j)))
      → q ≡ record p { second = sent ticket } → HalfGoes flights (flushes ticket) p q
  is_synced : {p q : HalfPart} (ticket : ℕ) (ops : List RowOp) → p.begun ≡ Some ops → p.second ≡ sent ticket → q ≡ record p { second = flushed }
      → HalfGoes flights (ends ticket) p q
  moves_on : {p q : HalfPart} (ops : List RowOp) → p.begun ≡ Some ops → p.from ≡ 0 → p.second ≡ flushed → q ≡ moved_on ops p
      → HalfGoes flights nothing p q
  switches : {p q : HalfPart} → q ≡ half_switched p → HalfGoes flights nothing p q

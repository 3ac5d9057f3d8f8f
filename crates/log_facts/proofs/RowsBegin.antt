-- A checkpoint of the rows: how it begins, and its pieces.
use Rattle.std.proofs.Common.{◌≡◌, ℕ, ◌+◌, ◌*◌, ◌<◌, ◌≤◌, Bool, false, List, [], ◌∷◌, sym, ap, ◌∙◌, arith}
use Rattle.std.proofs.lemmas.List.{append-nil}
use Rattle.byte_maps.specs.Units.{unit_at, units_from, zeros}
use Rattle.byte_maps.proofs.Prelude.{unit_at-units_from, unit_at-zeros}
use Rattle.block_device.specs.Prelude.{History}
use Rattle.meta_rows.specs.declared.row_op.RowOp.{RowOp}
use Rattle.meta_rows.specs.Prelude.{Rows, row_sets}
use Rattle.meta_log.specs.Prelude.{record_units, units_of_records, one_record, check_records, check_units, next_super, target_unit, records_units}
use Rattle.meta_log.specs.declared.slot.Super.{Super}
use Rattle.log_facts.specs.Prelude.{not_sent, IsSpellable, OtherHalfRests, CheckpointStands}
use Rattle.log_facts.proofs.Found.{length-records_units}
use Rattle.log_facts.proofs.OneRecord.{records_made, records_spellable}
use Rattle.log_facts.proofs.Switching.{check_begin, target_front, target_behind}

pub rows_begin : (h : History) (s : Super) (number : ℕ) (rows : Rows) (is_stale is_left : ℕ → Bool) → IsSpellable number (row_sets rows)
    → check_units number rows ≤ s.half
    → ((k : ℕ) → k < s.half → is_left k ≡ false → (check_units number rows ≤ k) × (is_stale k ≡ false)) → OtherHalfRests h s is_stale
    → CheckpointStands h (next_super s number) rows (check_units number rows) (check_records rows) is_left not_sent
rows_begin h s number rows is_stale is_left spellable fits beyond rests =
    check_begin h s number rows (check_units number rows) (check_records rows) is_stale is_left (records_made rows)
    (records_spellable number rows spellable) (length-records_units number (check_records rows)) fits beyond rests

-- a piece of its record has what its units are to hold

piece_of : (number : ℕ) (ops : List RowOp) (from count j : ℕ) → from + count ≤ units_of_records number (one_record ops) → j < count
    → unit_at j (units_from from count (record_units number ops)) ≡ target_unit (units_of_records number (one_record ops)) number (one_record ops) (from + j)
piece_of number [] from count j within below = absurd (omega (arith, within, below))
piece_of number (op ∷ ops) from count j within below =
    unit_at-units_from from count j (record_units number (op ∷ ops)) below
    ∙ ap (unit_at (from + j)) (sym (append-nil (record_units number (op ∷ ops))))
    ∙ sym (target_front (units_of_records number (one_record (op ∷ ops))) number (one_record (op ∷ ops)) (from + j) (omega (arith, within, below)))

pub record_piece : (number : ℕ) (rows : Rows) (from count j : ℕ) → from + count ≤ check_units number rows → j < count
    → unit_at j (units_from from count (record_units number (row_sets rows))) ≡ target_unit (check_units number rows) number (check_records rows) (from + j)
record_piece number rows from count j within below = piece_of number (row_sets rows) from count j within below

-- and so have zeros behind it
pub zero_piece : (number : ℕ) (rows : Rows) (from count j : ℕ) → check_units number rows ≤ from → j < count
    → unit_at j (zeros (4096 * count)) ≡ target_unit (check_units number rows) number (check_records rows) (from + j)
zero_piece number rows from count j behind below =
    unit_at-zeros j (4096 * count) (omega (arith, below)) ∙ sym (target_behind (check_units number rows) number (check_records rows) (from + j) (omega (arith, behind)))

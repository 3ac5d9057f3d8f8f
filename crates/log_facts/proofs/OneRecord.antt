-- The records of a checkpoint make its rows, and have a spelling where these do.
use Rattle.std.proofs.Common.{◌≡◌, ℕ, List, [], ◌∷◌, refl, sym, ◌∙◌}
use Rattle.std.specs.FinMap as map
use Rattle.meta_rows.specs.declared.row_op.RowOp.{RowOp}
use Rattle.meta_rows.specs.Prelude.{Rows, rows_after, rows_of_records, row_sets}
use Rattle.meta_rows.proofs.SetLemmas.{rows_made}
use Rattle.meta_log.specs.Prelude.{one_record, check_records}
use Rattle.log_facts.specs.Prelude.{IsSpellable, AreSpellable}

of_one_record : (rows : Rows) (ops : List RowOp) → rows_of_records rows (one_record ops) ≡ rows_after rows ops
of_one_record rows [] = refl
of_one_record rows (op ∷ ops) = refl

pub records_made : (rows : Rows) → rows ≡ rows_of_records map.empty (check_records rows)
records_made rows = sym (of_one_record map.empty (row_sets rows) ∙ rows_made rows)

one_spellable : (number : ℕ) (ops : List RowOp) → IsSpellable number ops → AreSpellable number (one_record ops)
one_spellable number [] is = tt
one_spellable number (op ∷ ops) is = (is, tt)

pub records_spellable : (number : ℕ) (rows : Rows) → IsSpellable number (row_sets rows) → AreSpellable number (check_records rows)
records_spellable number rows is = one_spellable number (row_sets rows) is

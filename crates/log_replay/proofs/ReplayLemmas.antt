-- Records, one after another.
use Rattle.std.proofs.Common.{◌≡◌, ℕ, ◌+◌, ◌*◌, ◌≤◌, List, [], ◌∷◌, ◌++◌, length, drop, refl, sym, ap, subst, ◌∙◌, arith}
use Rattle.std.specs.FinMap as map
use Rattle.std.proofs.lemmas.List.{length-append}
use Rattle.meta_rows.specs.declared.row_op.RowOp.{RowOp}
use Rattle.meta_rows.specs.Prelude.{Rows, rows_after, rows_of_records}
use Rattle.meta_rows.proofs.Folds.{rows_of_records-push}
use Rattle.meta_log.specs.Prelude.{BeginsWithRecord, IsAtFront, units_of_records}
use Rattle.meta_log.specs.declared.scanning.FoundRecord.{FoundRecord}
use Rattle.meta_log.proofs.ScanLemmas.{StandUpTo, one_more, these_are_all, units-one_more, length-with_record}
use Rattle.store_steps.specs.Prelude.{rows_units}
use Rattle.space_facts.proofs.Prelude.{rows_units-records}
use Rattle.log_replay.specs.Prelude.{IsReplay}

-- ---- records, one after another

-- these records were read and applied, and these bytes are left
pub record ReplayedSoFar (half : List ℕ) (first : ℕ) (left : List ℕ) (rows : Rows) (tail number : ℕ) : Type 0 where
  pub records : List (List RowOp)
  pub stand : StandUpTo records first half left
  pub made : rows ≡ rows_of_records map.empty records
  pub tail_is : tail ≡ units_of_records first records
  pub number_is : number ≡ first + length records
  pub size : 4096 * tail + length left ≡ length half

pub replayed_none : (half : List ℕ) (first : ℕ) (rows : Rows) → rows ≡ map.empty → ReplayedSoFar half first half rows 0 first
replayed_none half first rows none = record {
  records = [];
  stand = refl;
  made = none;
  tail_is = refl;
  number_is = omega arith;
  size = omega arith;
}

pub replayed_more : (half : List ℕ) (first : ℕ) (left : List ℕ) (rows : Rows) (tail number : ℕ) (found : FoundRecord) (rest : List ℕ) (after : Rows)
    → IsAtFront left number found → rest ≡ drop (4096 * found.units) left → after ≡ rows_after rows found.ops
    → ReplayedSoFar half first left rows tail number → ReplayedSoFar half first rest after (tail + found.units) (number + 1)
replayed_more half first left rows tail number found rest after is cut applied so_far =
    let here : BeginsWithRecord left number found.ops rest = subst (BeginsWithRecord left number found.ops) (sym cut) is.stands in
    let records = so_far.records in record {
      records = records ++ found.ops ∷ [];
      stand = one_more records first number half left rest found.ops so_far.stand so_far.number_is here;
      made = applied ∙ ap (λ r. rows_after r found.ops) so_far.made ∙ sym (rows_of_records-push map.empty records found.ops);
      tail_is = omega (arith, so_far.tail_is, is.size, units-one_more records first number found.ops so_far.number_is);
      number_is = omega (arith, so_far.number_is, length-append records (found.ops ∷ []));
      size = omega (arith, so_far.size, is.size, length-with_record left number found.ops rest here);
    }

pub replayed_all : (half : List ℕ) (first : ℕ) (left : List ℕ) (rows : Rows) (tail number : ℕ)
    → ((ops : List RowOp) (rest : List ℕ) → ¬ (BeginsWithRecord left number ops rest)) → ReplayedSoFar half first left rows tail number
    → IsReplay half first rows tail number
replayed_all half first left rows tail number none so_far = record {
  records = so_far.records;
  stand = these_are_all so_far.records first number half left so_far.stand so_far.number_is none;
  made = so_far.made;
  tail_is = so_far.tail_is;
  number_is = so_far.number_is;
  within = omega (arith, so_far.size);
}

-- the rows as one record take no more units than the records that make them
pub replay_within : (half : List ℕ) (first : ℕ) (rows : Rows) (tail number : ℕ) → IsReplay half first rows tail number → rows_units rows ≤ tail
replay_within half first rows tail number is = subst (λ n. rows_units rows ≤ n) (sym is.tail_is)
    (subst (λ r. rows_units r ≤ units_of_records first is.records) (sym is.made) (rows_units-records first is.records))

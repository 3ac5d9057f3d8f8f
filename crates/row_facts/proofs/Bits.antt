-- The bits of the bitmap where rows under other keys change.
use Rattle.std.proofs.Common.{◌≡◌, ◌≢◌, ◌↔◌, inl, inr, ℕ, List, [], unwrap_or, sym, ap, ◌∙◌}
use Rattle.std.specs.FinMap as map
use Rattle.unit_fields.specs.declared.width.Width.{Width}
use Rattle.meta_rows.specs.Prelude.{Rows}
use Rattle.meta_rows.proofs.RowLemmas.{get-remove_other}
use Rattle.row_format.specs.Prelude.{bitmap_key, bit_row, bit_in}
use Rattle.store_image.specs.Prelude.{IsOwned, IsMarked, IsExactBut, HasSoleOwner, CountsAreExact}
use Rattle.row_facts.proofs.Maps.{get_other}

-- the key is none of the bitmap's
abbrev pub IsNoBitmapKey : List ℕ → Type 0
IsNoBitmapKey key = (r : ℕ) → bitmap_key r ≢ key

-- where the bitmap's rows are the same, each unit is marked if it was
pub bits_stay : (rows after : Rows) → ((r : ℕ) → map.get after (bitmap_key r) ≡ map.get rows (bitmap_key r)) → (unit : ℕ)
    → IsMarked after unit ↔ IsMarked rows unit
bits_stay rows after same unit =
    let is = ap (λ x. bit_in (unwrap_or x []) unit) (same (bit_row unit)) in
    (λ marked. sym is ∙ marked, λ marked. is ∙ marked)

-- so where a row is set
pub bits_stay_set : (rows : Rows) (key value : List ℕ) → IsNoBitmapKey key → (unit : ℕ)
    → IsMarked (map.insert rows key value) unit ↔ IsMarked rows unit
bits_stay_set rows key value other = bits_stay rows (map.insert rows key value) (λ r. get_other rows key value (bitmap_key r) (other r))

-- or dropped
pub bits_stay_dropped : (rows : Rows) (key : List ℕ) → IsNoBitmapKey key → (unit : ℕ) → IsMarked (map.remove rows key) unit ↔ IsMarked rows unit
bits_stay_dropped rows key other = bits_stay rows (map.remove rows key) (λ r. get-remove_other rows key (bitmap_key r) (λ e. other r (sym e)))

-- where the same units are marked and owned, no owner comes to a unit that has one, and counts stay exact, the rows stay exact
pub exact_stays : (w : Width) (rows after : Rows) → ((unit : ℕ) → IsMarked after unit ↔ IsMarked rows unit)
    → ((unit : ℕ) → IsOwned w after unit ↔ IsOwned w rows unit) → ((unit : ℕ) → HasSoleOwner w rows unit → HasSoleOwner w after unit)
    → (CountsAreExact w rows → CountsAreExact w after) → (leaked : ℕ → Type 0) → IsExactBut w leaked rows → IsExactBut w leaked after
exact_stays w rows after bits owned sole counts leaked exact = record {
  marked = λ unit small is. elim (exact.marked unit small ((bits unit).0 is)) [ inl was ↦ inl ((owned unit).1 was) | inr left ↦ inr (left.0, λ now. left.1 ((owned unit).0 now)) ];
  owned_marked = λ unit is. (bits unit).1 (exact.owned_marked unit ((owned unit).0 is));
  one_owner = λ unit. sole unit (exact.one_owner unit);
  counts = counts exact.counts;
}

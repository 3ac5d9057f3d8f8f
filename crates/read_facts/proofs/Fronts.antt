-- The rows whose keys have a common front, as a map under what stands behind the front.
use Rattle.std.proofs.Common.{◌≡◌, ◌≢◌, ◌⊎◌, inl, inr, ℕ, cond, List, [], ◌∷◌, ◌++◌, Some, refl, sym, ap, ◌∙◌, drop}
use Rattle.std.specs.Ordering.{is_eq}
use Rattle.std.specs.Cmp.{tied_itself}
use Rattle.std.specs.Cmp.Lexicographic.{nat_list_cmp_total}
use Rattle.std.specs.declared.cmp.Ordering.{Ordering}
use Rattle.std.specs.declared.cmp.Ordering.TheVariants.{Less, Equal, Greater}
use Rattle.std.specs.FinMap as finite
use Rattle.std.specs.FinMap.{find}
use Rattle.std.proofs.lemmas.Bool.{cases_eq}
use Rattle.byte_maps.specs.ByteMap.{byte_order, ByteMap}
use Rattle.byte_maps.proofs.Prelude.{same_bytes}
use Rattle.meta_rows.specs.Prelude.{Rows}
use Rattle.row_format.proofs.Prelude.{same_head}
use Rattle.store_image.proofs.Prelude.{equal_or_not}
use Rattle.row_facts.proofs.Maps.{get_same, get_other}

-- the key has the front, or it hasn't
abbrev Cut : List ℕ → List ℕ → Type 0
Cut front key = ((rest : List ℕ) × (key ≡ front ++ rest)) ⊎ ((rest : List ℕ) → key ≢ front ++ rest)

pub cut : (front key : List ℕ) → Cut front key
cut [] key = inl (key, refl)
cut (a ∷ front) [] = inr (λ rest e. cc)
cut (a ∷ front) (b ∷ key) = by (cases_eq a b) (cut front key)
  where
    by : (a ≡ b) ⊎ (a ≢ b) → Cut front key → Cut (a ∷ front) (b ∷ key)
    by (inl same) (inl found) = inl (found.0, λ i. sym same i ∷ found.1 i)
    by (inl same) (inr none) = inr (λ rest e. none rest (ap (drop 1) e))
    by (inr apart) t = inr (λ rest e. apart (sym (same_head _ _ _ _ e)))

abbrev put : (front key : List ℕ) → Cut front key → List ℕ → ByteMap (List ℕ) → ByteMap (List ℕ)
put front key (inl found) value m = finite.insert m found.0 value
put front key (inr none) value m = m

abbrev behind : List ℕ → List (List ℕ × List ℕ) → ByteMap (List ℕ)
behind front [] = finite.empty
behind front (e ∷ es) = put front e.0 (cut front e.0) e.1 (behind front es)

-- what is found under a key of the entry, and under another
found_here : (key : List ℕ) (e : List ℕ × List ℕ) (es : List (List ℕ × List ℕ)) → key ≡ e.0 → find byte_order key (e ∷ es) ≡ Some e.1
found_here key e es is =
    ap (λ (k : List ℕ). cond (is_eq (byte_order k e.0)) (Some e.1) (find byte_order k es)) is
    ∙ ap (λ r. cond (is_eq r) (Some e.1) (find byte_order e.0 es)) (tied_itself nat_list_cmp_total e.0)

found_later : (key : List ℕ) (e : List ℕ × List ℕ) (es : List (List ℕ × List ℕ)) → key ≢ e.0 → find byte_order key (e ∷ es) ≡ find byte_order key es
found_later key e es apart = by (byte_order key e.0) refl
  where
    by : (o : Ordering) → byte_order key e.0 ≡ o → cond (is_eq o) (Some e.1) (find byte_order key es) ≡ find byte_order key es
    by Less p = refl
    by Equal p = absurd (apart (same_bytes key e.0 p))
    by Greater p = refl

same_rest : (front a b : List ℕ) → front ++ a ≡ front ++ b → a ≡ b
same_rest [] a b e = e
same_rest (x ∷ front) a b e = same_rest front a b (ap (drop 1) e)

get_behind : (front : List ℕ) (es : List (List ℕ × List ℕ)) (rest : List ℕ) → finite.get (behind front es) rest ≡ find byte_order (front ++ rest) es
get_behind front [] rest = finite.get-empty byte_order rest
get_behind front (e ∷ es) rest = by (cut front e.0) (get_behind front es rest)
  where
    by : (t : Cut front e.0) → finite.get (behind front es) rest ≡ find byte_order (front ++ rest) es
        → finite.get (put front e.0 t e.1 (behind front es)) rest ≡ find byte_order (front ++ rest) (e ∷ es)
    by (inr none) old = old ∙ sym (found_later (front ++ rest) e es (λ is. none rest (sym is)))
    by (inl found) old = elim (equal_or_not rest found.0) [
      | inl same ↦
          let key : front ++ rest ≡ e.0 = ap (λ (l : List ℕ). front ++ l) same ∙ sym found.1 in
          ap (finite.get (finite.insert (behind front es) found.0 e.1)) same ∙ get_same (behind front es) found.0 e.1
          ∙ sym (found_here (front ++ rest) e es key)
      | inr apart ↦ get_other (behind front es) found.0 e.1 rest apart ∙ old
          ∙ sym (found_later (front ++ rest) e es (λ is. apart (same_rest front rest found.0 (is ∙ found.1))))
    ]

-- the values of the rows under the keys with this front
pub values_behind : List ℕ → Rows → ByteMap (List ℕ)
values_behind front rows = behind front (finite.entries rows)

pub value_behind : (front : List ℕ) (rows : Rows) (rest : List ℕ) → finite.get (values_behind front rows) rest ≡ finite.get rows (front ++ rest)
unfolding values_behind
value_behind front rows rest = get_behind front (finite.entries rows) rest ∙ sym (finite.get-entries rows (front ++ rest))

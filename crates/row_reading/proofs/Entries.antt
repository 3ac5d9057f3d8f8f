-- The rows of a store as a list in the order of their keys.
use Rattle.std.proofs.Common.{◌≡◌, ℕ, zero, suc, ◌<◌, true, false, cond, T, List, [], ◌∷◌, length, get_or, Some, None, refl, sym, ap, subst, ◌∙◌, arith}
use Rattle.std.specs.Ordering.{is_lt, is_eq, ordering_reverse}
use Rattle.std.specs.declared.cmp.Ordering.{Ordering}
use Rattle.std.specs.declared.cmp.Ordering.TheVariants.{Less, Equal, Greater}
use Rattle.std.specs.FinMap as map
use Rattle.std.specs.FinMap.{find, is_sorted}
use Rattle.std.specs.FinMap.Entries.{where_key, below_all}
use Rattle.std.proofs.lemmas.Cmp.{tied_itself, nat_list_cmp_total}
use Rattle.std.proofs.lemmas.List.{get_or_default}
use Rattle.byte_maps.specs.ByteMap.{byte_order}
use Rattle.byte_maps.proofs.Prelude.{same_bytes, both_first, both_second}
use Rattle.meta_rows.specs.Prelude.{Rows, is_from_to, rows_from_to}

-- ---- entries in order

is_less : (o : Ordering) → T (is_lt o) → o ≡ Less
is_less Less h = refl
is_less Equal h = absurd h
is_less Greater h = absurd h

is_equal : (o : Ordering) → T (is_eq o) → o ≡ Equal
is_equal Less h = absurd h
is_equal Equal h = refl
is_equal Greater h = absurd h

below_at : (key : List ℕ) (es : List (List ℕ × List ℕ)) (j : ℕ) (d : List ℕ × List ℕ) → T (below_all byte_order key es) → j < length es → byte_order key (get_or es j d).0 ≡ Less
below_at key [] j d h l = absurd (omega arith)
below_at key (e ∷ es) zero d h l = is_less _ (both_first _ _ h)
below_at key (e ∷ es) (suc j) d h l = below_at key es j d (both_second _ _ h) (omega arith)

pub rising : (es : List (List ℕ × List ℕ)) (i j : ℕ) (d e : List ℕ × List ℕ) → T (is_sorted byte_order es) → i < j → j < length es → byte_order (get_or es i d).0 (get_or es j e).0 ≡ Less
rising [] i j d e h lt l = absurd (omega arith)
rising (x ∷ es) zero zero d e h lt l = absurd (omega arith)
rising (x ∷ es) zero (suc j) d e h lt l = below_at x.0 es j e (both_first _ _ h) (omega arith)
rising (x ∷ es) (suc i) zero d e h lt l = absurd (omega arith)
rising (x ∷ es) (suc i) (suc j) d e h lt l = rising es i j d e (both_second _ _ h) (omega arith) (omega arith)

-- a key that is found stands somewhere
pub record StandsAt (es : List (List ℕ × List ℕ)) (key value : List ℕ) : Type 0 where
  pub at : ℕ
  pub within : at < length es
  pub is : (d : List ℕ × List ℕ) → get_or es at d ≡ (key, value)

later : (e : List ℕ × List ℕ) (es : List (List ℕ × List ℕ)) (key value : List ℕ) → StandsAt es key value → StandsAt (e ∷ es) key value
later e es key value s = record { at = suc s.at; within = omega (arith, s.within); is = s.is }

stands : (es : List (List ℕ × List ℕ)) (key value : List ℕ) → find byte_order key es ≡ Some value → StandsAt es key value
stands [] key value is = absurd cc
stands (e ∷ es) key value is =
    elim (is_eq (byte_order key e.0)) as (λ b. is_eq (byte_order key e.0) ≡ b → cond b (Some e.1) (find byte_order key es) ≡ Some value → StandsAt (e ∷ es) key value) [
      | true ↦ λ t h.
          let k = same_bytes key e.0 (is_equal _ (subst T (sym t) tt)) in
          let v : e.1 ≡ value = cc in
          record { at = 0; within = omega arith; is = λ d i. (sym k i, v i) }
      | false ↦ λ t h. later e es key value (stands es key value h)
    ] refl is

found : (es : List (List ℕ × List ℕ)) (j : ℕ) (d : List ℕ × List ℕ) → T (is_sorted byte_order es) → j < length es → find byte_order (get_or es j d).0 es ≡ Some (get_or es j d).1
found [] j d h l = absurd (omega arith)
found (e ∷ es) zero d h l = ap (λ r. cond (is_eq r) (Some e.1) (find byte_order e.0 es)) (tied_itself nat_list_cmp_total e.0)
found (e ∷ es) (suc j) d h l =
    let less = below_at e.0 es j d (both_first _ _ h) (omega arith) in
    ap (λ b. cond b (Some e.1) (find byte_order (get_or es j d).0 es)) (ap is_eq (nat_list_cmp_total.antisymm (get_or es j d).0 e.0 ∙ ap ordering_reverse less))
    ∙ found es j d (both_second _ _ h) (omega arith)

-- ---- all rows

any_key : (key : List ℕ) → is_from_to [] None key ≡ true
any_key [] = refl
any_key (b ∷ bs) = refl

all_pass : (es : List (List ℕ × List ℕ)) → where_key byte_order (is_from_to [] None) es ≡ es
all_pass [] = refl
all_pass (e ∷ es) = ap (λ b. cond b (e ∷ where_key byte_order (is_from_to [] None) es) (where_key byte_order (is_from_to [] None) es)) (any_key e.0) ∙ ap (λ (l : List (List ℕ × List ℕ)). e ∷ l) (all_pass es)

pub all_rows : (rows : Rows) → rows_from_to rows [] None ≡ map.entries rows
all_rows rows = all_pass (map.entries rows)

-- an entry in its parts, as a loop sees it
pub entry_is : (es : List (List ℕ × List ℕ)) (i : ℕ) (x : List ℕ × List ℕ) (key value : List ℕ) → i < length es → x ≡ get_or es i x → key ≡ x.0 → value ≡ x.1
    → (d : List ℕ × List ℕ) → get_or es i d ≡ (key, value)
entry_is es i x key value l is k v d = get_or_default es i d x l ∙ sym is ∙ (λ j. (sym k j, sym v j))

-- these are the rows, in the order of their keys
pub record AreRows (rows : Rows) (es : List (List ℕ × List ℕ)) : Type 0 where
  pub sorted : T (is_sorted byte_order es)
  pub stands : (key value : List ℕ) → map.get rows key ≡ Some value → StandsAt es key value
  pub has : (j : ℕ) (d : List ℕ × List ℕ) → j < length es → map.get rows (get_or es j d).0 ≡ Some (get_or es j d).1

entries_are : (rows : Rows) → AreRows rows (map.entries rows)
entries_are rows = record {
  sorted = map.entries_sorted rows;
  stands = λ key value is. stands (map.entries rows) key value (sym (map.get-entries rows key) ∙ is);
  has = λ j d l. map.get-entries rows _ ∙ found (map.entries rows) j d (map.entries_sorted rows) l;
}

pub are_rows : (rows : Rows) (es : List (List ℕ × List ℕ)) → es ≡ rows_from_to rows [] None → AreRows rows es
are_rows rows es is = subst (AreRows rows) (sym (is ∙ all_rows rows)) (entries_are rows)

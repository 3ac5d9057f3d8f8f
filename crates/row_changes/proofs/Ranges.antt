-- The rows of a range of keys: each is found, and none other.
use Rattle.std.proofs.Common.{◌≡◌, ℕ, Bool, true, false, cond, T, List, [], ◌∷◌, Option, Some, None, refl, sym, ap, ◌∙◌}
use Rattle.std.specs.List.{AllByRecursion}
use Rattle.std.specs.Ordering.{is_lt, is_eq, ordering_reverse}
use Rattle.std.specs.declared.cmp.Ordering.{Ordering}
use Rattle.std.specs.declared.cmp.Ordering.TheVariants.{Less, Equal, Greater}
use Rattle.std.specs.Cmp.{tied_itself}
use Rattle.std.specs.Cmp.Lexicographic.{nat_list_cmp_total}
use Rattle.std.specs.FinMap as finite
use Rattle.std.specs.FinMap.{find, is_sorted}
use Rattle.std.specs.FinMap.Entries.{below_all, find-where_key, is_sorted-where_key}
use Rattle.byte_maps.specs.ByteMap.{byte_order, in_range}
use Rattle.byte_maps.proofs.Prelude.{same_bytes, both_first, both_second}
use Rattle.meta_rows.specs.Prelude.{Rows, rows_from_to}
use Rattle.row_changes.proofs.Puts.{all_map}

abbrev pub Entry : Type 0
Entry = List ℕ × List ℕ

-- ---- entries in order

is_less : (o : Ordering) → T (is_lt o) → o ≡ Less
is_less Less h = refl
is_less Equal h = absurd h
is_less Greater h = absurd h

all_above : (key : List ℕ) (es : List Entry) → T (below_all byte_order key es) → AllByRecursion (λ e. byte_order key e.0 ≡ Less) es
all_above key [] h = tt
all_above key (e ∷ es) h = (is_less (byte_order key e.0) (both_first _ _ h), all_above key es (both_second _ _ h))

-- each entry is found
found_behind : (e : Entry) (es xs : List Entry) → AllByRecursion (λ x. byte_order e.0 x.0 ≡ Less) xs → AllByRecursion (λ x. find byte_order x.0 es ≡ Some x.1) xs
    → AllByRecursion (λ x. find byte_order x.0 (e ∷ es) ≡ Some x.1) xs
found_behind e es [] above found = tt
found_behind e es (x ∷ xs) above found = (
  ap (λ o. cond (is_eq o) (Some e.1) (find byte_order x.0 es)) (nat_list_cmp_total.antisymm x.0 e.0 ∙ ap ordering_reverse above.0) ∙ found.0,
  found_behind e es xs above.1 found.1,
)

all_found : (es : List Entry) → T (is_sorted byte_order es) → AllByRecursion (λ e. find byte_order e.0 es ≡ Some e.1) es
all_found [] h = tt
all_found (e ∷ es) h = (
  ap (λ o. cond (is_eq o) (Some e.1) (find byte_order e.0 es)) (tied_itself nat_list_cmp_total e.0),
  found_behind e es es (all_above e.0 es (both_first _ _ h)) (all_found es (both_second _ _ h)),
)

module _ (rows : Rows) (first end : List ℕ) where
  abbrev range : List Entry
  range = rows_from_to rows first (Some end)

  range_sorted : T (is_sorted byte_order range)
  range_sorted = is_sorted-where_key byte_order (in_range first end) (finite.entries rows) (finite.entries_sorted rows)

  pub range_find : (key : List ℕ) → find byte_order key range ≡ cond (in_range first end key) (finite.get rows key) None
  range_find key =
      find-where_key byte_order (in_range first end) key (λ x t. ap (in_range first end) (sym (same_bytes key x t))) (finite.entries rows)
      ∙ ap (λ (o : Option (List ℕ)). cond (in_range first end key) o None) (sym (finite.get-entries rows key))

  -- a row that is found is in the range, and there
  in_and_there : (key value : List ℕ) → find byte_order key range ≡ Some value → (in_range first end key ≡ true) × (finite.get rows key ≡ Some value)
  in_and_there key value is = elim (in_range first end key) as
      (λ (b : Bool). cond b (finite.get rows key) None ≡ Some value → (b ≡ true) × (finite.get rows key ≡ Some value)) [
        | true ↦ λ h. (refl, h)
        | false ↦ λ h. absurd cc
      ] (sym (range_find key) ∙ is)

  pub all_there : AllByRecursion (λ e. finite.get rows e.0 ≡ Some e.1) range
  all_there = all_map (λ e. find byte_order e.0 range ≡ Some e.1) (λ e. finite.get rows e.0 ≡ Some e.1)
      (λ e is. (in_and_there e.0 e.1 is).1) range (all_found range range_sorted)

  pub all_inside : AllByRecursion (λ e. in_range first end e.0 ≡ true) range
  all_inside = all_map (λ e. find byte_order e.0 range ≡ Some e.1) (λ e. in_range first end e.0 ≡ true)
      (λ e is. (in_and_there e.0 e.1 is).0) range (all_found range range_sorted)

-- On good rows a page stands at one place.
use Rattle.std.proofs.Common.{◌≡◌, ◌⊎◌, inl, inr, ℕ, ◌<◌, ◌≤◌, ◌-◌, true, false, cond, List, [], ◌∷◌, Some, refl, sym, ap, subst, ◌∙◌, arith}
use Rattle.std.specs.Prelude.{nat_le, nat_lt, ◌&&◌}
use Rattle.std.specs.List.{AllByRecursion}
use Rattle.std.specs.FinMap as map
use Rattle.std.proofs.lemmas.Bool.{ltb-true, leb-true, cases_lt}
use Rattle.meta_rows.specs.Prelude.{Rows}
use Rattle.meta_log.specs.declared.slot.Super.{Super}
use Rattle.meta_log.specs.Prelude.{width_of}
use Rattle.row_format.specs.Prelude.{Extent, page_end, Place, place_in, place_of, ExtentsAscend, BeginsAt, Row, shard, row_key, row_value}
use Rattle.row_format.proofs.Prelude.{extents-same, same_row}
use Rattle.store_image.specs.Prelude.{HasRow, IsPageAt, IsInPlace, NoBadRow}

-- where no row is bad, a row that the rows have is in its place
pub in_place : (s : Super) (rows : Rows) (row : Row) → NoBadRow s rows → HasRow (width_of s) rows row → IsInPlace s rows row
in_place s rows row good has =
    let found = good (row_key row) (row_value (width_of s) row) has.stands in
    subst (IsInPlace s rows) (sym (same_row (width_of s) row found.row has.fits found.fits found.key_is found.value_is)) found.in_place

-- the first extent has the page, or one behind it has
place_cases : (e : Extent) (es : List Extent) (page : ℕ) (place : Place) → place_of (e ∷ es) page ≡ Some place → ((e.first ≤ page) × (page < page_end e)) ⊎ (place_of es page ≡ Some place)
place_cases e es page place is =
    elim (nat_le e.first page) as (λ a. nat_le e.first page ≡ a → cond (a && nat_lt page (page_end e)) (Some (place_in e.body (page - e.first))) (place_of es page) ≡ Some place → ((e.first ≤ page) × (page < page_end e)) ⊎ (place_of es page ≡ Some place)) [
      | false ↦ λ p h. inr h
      | true ↦ λ p h. elim (nat_lt page (page_end e)) as (λ b. nat_lt page (page_end e) ≡ b → cond b (Some (place_in e.body (page - e.first))) (place_of es page) ≡ Some place → ((e.first ≤ page) × (page < page_end e)) ⊎ (place_of es page ≡ Some place)) [
        | false ↦ λ q k. inr k
        | true ↦ λ q k. inl (leb-true _ _ p, ltb-true _ _ q)
      ] refl h
    ] refl is

page_below : (es : List Extent) (page limit : ℕ) (place : Place) → place_of es page ≡ Some place → AllByRecursion (λ e. page_end e ≤ limit) es → page < limit
page_below [] page limit place is all = absurd cc
page_below (e ∷ es) page limit place is all = elim (place_cases e es page place is) [
  | inl h ↦ omega (arith, h.1, all.0)
  | inr h ↦ page_below es page limit place h all.1
]

page_from : (es : List Extent) (page least : ℕ) (place : Place) → place_of es page ≡ Some place → AllByRecursion (λ e. least ≤ e.first) es → least ≤ page
page_from [] page least place is all = absurd cc
page_from (e ∷ es) page least place is all = elim (place_cases e es page place is) [
  | inl h ↦ omega (arith, h.0, all.0)
  | inr h ↦ page_from es page least place h all.1
]

not_lower : (e : Extent) (es : List Extent) → AllByRecursion (λ later. page_end e ≤ later.first) es → AllByRecursion (λ later. e.first ≤ later.first) es
not_lower e [] all = tt
not_lower e (l ∷ es) all = (omega (arith, all.0), not_lower e es all.1)

-- the pages of a shard begin at the page of its key
page_of_shard : (es : List Extent) (page first : ℕ) (place : Place) → place_of es page ≡ Some place → BeginsAt first es → ExtentsAscend es → first ≤ page
page_of_shard [] page first place is begins ascend = absurd begins
page_of_shard (e ∷ es) page first place is begins ascend = elim (place_cases e es page place is) [
  | inl h ↦ omega (arith, h.0, begins)
  | inr h ↦ omega (arith, begins, page_from es page e.first place h (not_lower e es ascend.0))
]

module _ (s : Super) (rows : Rows) (good : NoBadRow s rows) (c o : List ℕ) (page : ℕ) where
  no_earlier : (a b : Place) (p : IsPageAt (width_of s) rows c o page a) (q : IsPageAt (width_of s) rows c o page b) → p.first < q.first → ⊥
  no_earlier a b p q lt =
      let later = in_place s rows (shard c o q.first q.extents) good q.has_shard in
      let below = page_below p.extents page q.first a p.has_page (later.behind p.first p.extents lt p.has_shard) in
      let from = page_of_shard q.extents page q.first b q.has_page q.has_shard.fits.begins later.ascend in
      omega (arith, below, from)

  pub one_place : (a b : Place) → IsPageAt (width_of s) rows c o page a → IsPageAt (width_of s) rows c o page b → a ≡ b
  one_place a b p q = elim (cases_lt p.first q.first) [
    | inl lt ↦ absurd (no_earlier a b p q lt)
    | inr ge ↦ elim (cases_lt q.first p.first) [
      | inl lt ↦ absurd (no_earlier b a q p lt)
      | inr le ↦
          let first : p.first ≡ q.first = omega (arith, ge, le) in
          let value = sym p.has_shard.stands ∙ ap (λ n. map.get rows (row_key (shard c o n q.extents))) first ∙ q.has_shard.stands in
          let extents = extents-same (width_of s) p.extents q.extents p.has_shard.fits.fit q.has_shard.fits.fit cc in
          let is : Some a ≡ Some b = sym p.has_page ∙ ap (λ es. place_of es page) extents ∙ q.has_page in cc
    ]
  ]

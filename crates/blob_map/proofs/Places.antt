-- The place of a page, by the extents one after the other.
use Rattle.std.proofs.Common.{◌≡◌, ◌⊎◌, inl, inr, ℕ, ◌+◌, ◌-◌, ◌<◌, ◌≤◌, true, false, cond, List, [], ◌∷◌, Option, Some, None, refl, sym, ap, ◌∙◌, arith}
use Rattle.std.specs.Prelude.{nat_le, nat_lt, ◌&&◌}
use Rattle.std.specs.List.{flat_map, AllByRecursion}
use Rattle.std.specs.Ordering.{nat_cmp}
use Rattle.std.specs.FinMap as finite
use Rattle.std.proofs.lemmas.Bool.{cases_lt}
use Rattle.std.proofs.lemmas.Bool.Decides.{nat_tests}
use Rattle.row_format.specs.Prelude.{Extent, Place, place_in, place_of, page_count, page_end, ExtentsAscend}
use Rattle.blob_map.specs.Prelude.{PageMap, with_pages, extent_pages}
use Rattle.blob_map.proofs.Lay.{laid_append, laid_outside, laid_inside}

inside_is : (from end page : ℕ) → from ≤ page → page < end → (nat_le from page && nat_lt page end) ≡ true
inside_is from end page le lt = grind (arith, nat_tests)

low_is : (from end page : ℕ) → page < from → (nat_le from page && nat_lt page end) ≡ false
low_is from end page lt = grind (arith, nat_tests)

high_is : (from end page : ℕ) → end ≤ page → (nat_le from page && nat_lt page end) ≡ false
high_is from end page le = grind (arith, nat_tests)

-- the extent has the page, or not
pub page_cases : (e : Extent) (page : ℕ) → ((e.first ≤ page) × (page < page_end e)) ⊎ ((page < e.first) ⊎ (page_end e ≤ page))
page_cases e page = elim (cases_lt page e.first) [
  | inl lt ↦ inr (inl lt)
  | inr le ↦ elim (cases_lt page (page_end e)) [ inl lt ↦ inl (le, lt) | inr past ↦ inr (inr past) ]
]

module _ (e : Extent) (es : List Extent) (page : ℕ) where
  pub place_here : e.first ≤ page → page < page_end e → place_of (e ∷ es) page ≡ Some (place_in e.body (page - e.first))
  place_here le lt = ap (λ b. cond b (Some (place_in e.body (page - e.first))) (place_of es page)) (inside_is e.first (page_end e) page le lt)

  pub place_behind : (page < e.first) ⊎ (page_end e ≤ page) → place_of (e ∷ es) page ≡ place_of es page
  place_behind out = ap (λ b. cond b (Some (place_in e.body (page - e.first))) (place_of es page))
      (elim out [ inl lt ↦ low_is e.first (page_end e) page lt | inr le ↦ high_is e.first (page_end e) page le ])

-- no extent that begins behind a page has it
none_behind : (es : List Extent) (page n : ℕ) → page < n → AllByRecursion (λ later. n ≤ later.first) es → place_of es page ≡ None
none_behind [] page n lt all = refl
none_behind (e ∷ es) page n lt all = place_behind e es page (inl (omega (arith, lt, all.0))) ∙ none_behind es page n lt all.1

-- a place, or else another
unfoldable either : Option Place → Option Place → Option Place
either None other = other
either (Some place) other = Some place

-- the pages of extents that ascend, put into a map
laid_over : (es : List Extent) (pages : PageMap) → ExtentsAscend es → (page : ℕ)
    → finite.get (with_pages pages (flat_map extent_pages es)) page ≡ either (place_of es page) (finite.get pages page)
unfolding either
laid_over [] pages ascend page = refl
laid_over (e ∷ es) pages ascend page =
    let now : PageMap = with_pages pages (extent_pages e) in
    ap (λ m. finite.get m page) (laid_append pages (extent_pages e) (flat_map extent_pages es))
    ∙ laid_over es now ascend.1 page
    ∙ elim (page_cases e page) [
      | inl has ↦
          ap (λ r. either r (finite.get now page)) (none_behind es page (page_end e) has.1 ascend.0)
          ∙ laid_inside e (page_count e.body) 0 pages page (omega (arith, has.0)) (omega (arith, has.1))
          ∙ ap (λ r. either r (finite.get pages page)) (sym (place_here e es page has.0 has.1))
      | inr out ↦
          let bounds : (page < e.first + 0) ⊎ (e.first + 0 + page_count e.body ≤ page) =
          elim out [ inl lt ↦ inl (omega (arith, lt)) | inr le ↦ inr (omega (arith, le)) ] in
          ap (λ r. either (place_of es page) r) (laid_outside e (page_count e.body) 0 pages page bounds)
          ∙ ap (λ r. either r (finite.get pages page)) (sym (place_behind e es page out))
    ]

or_none : (r : Option Place) → either r None ≡ r
unfolding either
or_none None = refl
or_none (Some place) = refl

-- into the empty one: each page stands where they say
pub laid_alone : (es : List Extent) → ExtentsAscend es → (page : ℕ) → finite.get (with_pages finite.empty (flat_map extent_pages es)) page ≡ place_of es page
laid_alone es ascend page =
    laid_over es finite.empty ascend page ∙ ap (either (place_of es page)) (finite.get-empty nat_cmp page) ∙ or_none (place_of es page)

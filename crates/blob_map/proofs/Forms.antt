-- The extents of pages fit, ascend, and are as long as they get.
use Rattle.std.proofs.Common.{◌≡◌, ◌⊎◌, inl, inr, ℕ, zero, suc, ◌+◌, ◌-◌, ◌<◌, ◌≤◌, true, false, cond, T, List, [], ◌∷◌, ◌++◌, map, Some, refl, sym, ap, subst, ◌∙◌, arith}
use Rattle.std.specs.List.{range_with_len, flat_map, AllByRecursion}
use Rattle.std.specs.Ordering.{nat_cmp, is_eq}
use Rattle.std.specs.FinMap as finite
use Rattle.std.specs.FinMap.{find, is_sorted, entries, entries_sorted, get-entries}
use Rattle.std.specs.FinMap.Entries.{below_all}
use Rattle.std.proofs.lemmas.Bool.{cases_Bool, cases_lt}
use Rattle.unit_fields.specs.declared.width.Width.{Width}
use Rattle.number_map.proofs.Laws.{same}
use Rattle.number_map.proofs.Places.{both_first, both_second}
use Rattle.number_map.proofs.Search.{cmp_equal, cmp_less, cmp_greater, less_is}
use Rattle.row_format.specs.Prelude.{Extent, Body, private, shared, Place, own, slot, place_in, place_of, page_count, page_end, ExtentsAscend, FitsBody, FitsExtent, FitsCsum}
use Rattle.blob_map.specs.Prelude.{PageMap, FitsPlace, FitsPage, StandsWithin, IsBodyWithin, extent_pages, alone, single, follows, longer, more, extents_from, extents_of, IsBehind, NoneJoins}
use Rattle.blob_map.proofs.Lay.{page_at}
use Rattle.blob_map.proofs.Places.{page_cases, place_here, place_behind}
use Rattle.blob_map.proofs.Back.{IsNextPlace, follows_means, next_follows, longer_by_one, extents_back}

-- ---- they fit

fits_push : (w : Width) (csums : List ℕ) (csum : ℕ) → FitsCsum w csum → AllByRecursion (FitsCsum w) csums
    → AllByRecursion (FitsCsum w) (csums ++ csum ∷ [])
fits_push w [] csum fits all = (fits, tt)
fits_push w (c ∷ csums) csum fits all = (all.0, fits_push w csums csum fits all.1)

pub fits_longer : (w : Width) (body : Body) (p : Place) → page_count body < 256 → IsNextPlace body p → FitsPlace w p → FitsBody w body
    → FitsBody w (longer body p)
fits_longer w (private unit csums) (own at csum) few next place fits =
    let n = longer_by_one (private unit csums) (own at csum) in
    (fits.0, omega (arith, n), omega (arith, n, few), fits_push w csums csum place.1 fits.3)
fits_longer w (shared sbid first count) (slot blob index) few next place fits = (fits.0, fits.1, omega arith, omega (arith, few))
fits_longer w (private unit csums) (slot blob index) few next place fits = absurd next
fits_longer w (shared sbid first count) (own at csum) few next place fits = absurd next

fits_alone : (w : Width) (p : Place) → FitsPlace w p → FitsBody w (alone p)
fits_alone w (own unit csum) fits = (fits.0, omega arith, omega arith, (fits.1, tt))
fits_alone w (slot sbid index) fits = (fits.0, fits.1, omega arith, omega arith)

pub fits_single : (w : Width) (p : ℕ × Place) → FitsPage w p → FitsExtent w (single p)
fits_single w p fits = record { first = fits.page; body = fits_alone w p.1 fits.place }

pub fits_more : (w : Width) (e : Extent) (p : ℕ × Place) → FitsPlace w p.1 → follows e p ≡ true → FitsExtent w e → FitsExtent w (more e p)
fits_more w e p lt is fits = record { first = fits.first; body = fits_longer w e.body p.1 (follows_means e p is).few (follows_means e p is).place lt fits.body }

-- what holds of the extent of one page, and is kept by a page more, holds of all extents
module _ (P : Extent → Type 0) (Q : ℕ × Place → Type 0) (of_single : (p : ℕ × Place) → Q p → P (single p))
    (of_more : (e : Extent) (p : ℕ × Place) → follows e p ≡ true → P e → Q p → P (more e p)) where
  grown_all : (ps : List (ℕ × Place)) (e : Extent) → P e → AllByRecursion Q ps → AllByRecursion P (extents_from e ps)
  grown_all [] e has all = (has, tt)
  grown_all (p ∷ ps) e has all = elim (cases_Bool (follows e p)) [
    | inl is ↦ subst (λ t. AllByRecursion P (cond t (extents_from (more e p) ps) (e ∷ extents_from (single p) ps))) (sym is)
        (grown_all ps (more e p) (of_more e p is has all.0) all.1)
    | inr is ↦ subst (λ t. AllByRecursion P (cond t (extents_from (more e p) ps) (e ∷ extents_from (single p) ps))) (sym is)
        (has, grown_all ps (single p) (of_single p all.0) all.1)
  ]

  extents_all : (ps : List (ℕ × Place)) → AllByRecursion Q ps → AllByRecursion P (extents_of ps)
  extents_all [] all = tt
  extents_all (p ∷ ps) all = grown_all ps (single p) (of_single p all.0) all.1

pub extents_fit : (w : Width) (ps : List (ℕ × Place)) → AllByRecursion (FitsPage w) ps → AllByRecursion (FitsExtent w) (extents_of ps)
extents_fit w = extents_all (FitsExtent w) (FitsPage w) (fits_single w) (λ e p is has fits. fits_more w e p fits.place is has)

alone_count : (p : Place) → page_count (alone p) ≡ 1
alone_count (own unit csum) = refl
alone_count (slot sbid index) = refl

-- the pages are below a limit
pages_within : (limit : ℕ) (ps : List (ℕ × Place)) → AllByRecursion (λ p. p.0 < limit) ps → AllByRecursion (λ e. page_end e ≤ limit) (extents_of ps)
pages_within limit = extents_all (λ e. page_end e ≤ limit) (λ p. p.0 < limit) (λ p lt. omega (arith, lt, alone_count p.1))
    (λ e p is le lt. omega (arith, lt, longer_by_one e.body p.1, (follows_means e p is).page))

-- the units are in a range
alone_within : (low high : ℕ) (p : Place) → StandsWithin low high p → IsBodyWithin low high (alone p)
alone_within low high (own unit csum) has = (has.0, omega (arith, has.1))
alone_within low high (slot sbid index) has = tt

longer_within : (low high : ℕ) (body : Body) (p : Place) → IsNextPlace body p → IsBodyWithin low high body → StandsWithin low high p
    → IsBodyWithin low high (longer body p)
longer_within low high (private unit csums) (own at csum) next has lt =
    (has.0, omega (arith, lt.1, longer_by_one (private unit csums) (own at csum), next))
longer_within low high (private unit csums) (slot blob index) next has lt = absurd next
longer_within low high (shared sbid first count) p next has lt = tt

units_within : (low high : ℕ) (ps : List (ℕ × Place)) → AllByRecursion (λ p. StandsWithin low high p.1) ps
    → AllByRecursion (λ e. IsBodyWithin low high e.body) (extents_of ps)
units_within low high = extents_all (λ e. IsBodyWithin low high e.body) (λ p. StandsWithin low high p.1)
    (λ p has. alone_within low high p.1 has)
    (λ e p is has lt. longer_within low high e.body p.1 (follows_means e p is).place has lt)

-- ---- they ascend

-- the pages from this one on
abbrev From : ℕ → List (ℕ × Place) → Type 0
From n ps = AllByRecursion (λ p. n ≤ p.0) ps

all_later : (n : ℕ) (ps : List (ℕ × Place)) → T (below_all nat_cmp n ps) → From (n + 1) ps
all_later n [] h = tt
all_later n (p ∷ ps) h = (omega (arith, less_is n p.0 (both_first _ _ h)), all_later n ps (both_second _ _ h))

from_lower : (n m : ℕ) (ps : List (ℕ × Place)) → m ≤ n → From n ps → From m ps
from_lower n m [] le all = tt
from_lower n m (p ∷ ps) le all = (omega (arith, le, all.0), from_lower n m ps le all.1)

grown_ascend : (ps : List (ℕ × Place)) (e : Extent) (n : ℕ) → T (is_sorted nat_cmp ps) → From (page_end e) ps → n ≤ e.first
    → AllByRecursion (λ later. n ≤ later.first) (extents_from e ps) × ExtentsAscend (extents_from e ps)
grown_ascend [] e n sorted from le = ((le, tt), (tt, tt))
grown_ascend (p ∷ ps) e n sorted from le =
    let rest = both_second (below_all nat_cmp p.0 ps) _ sorted in
    let later = all_later p.0 ps (both_first _ (is_sorted nat_cmp ps) sorted) in
    let one : page_end (single p) ≡ p.0 + 1 = omega (arith, alone_count p.1) in
    let behind_one = subst (λ m. From m ps) (sym one) later in
    elim (cases_Bool (follows e p)) [
      | inl is ↦
          let end : page_end (more e p) ≡ p.0 + 1 = omega (arith, longer_by_one e.body p.1, (follows_means e p is).page) in
          subst (λ t. AllByRecursion (λ later. n ≤ later.first) (cond t (extents_from (more e p) ps) (e ∷ extents_from (single p) ps)) × ExtentsAscend (cond t (extents_from (more e p) ps) (e ∷ extents_from (single p) ps))) (sym is)
          (grown_ascend ps (more e p) n rest (subst (λ m. From m ps) (sym end) later) le)
      | inr is ↦
          let some = grown_ascend ps (single p) n rest behind_one (omega (arith, from.0, le)) in
          let behind = grown_ascend ps (single p) (page_end e) rest behind_one from.0 in
          subst (λ t. AllByRecursion (λ later. n ≤ later.first) (cond t (extents_from (more e p) ps) (e ∷ extents_from (single p) ps)) × ExtentsAscend (cond t (extents_from (more e p) ps) (e ∷ extents_from (single p) ps))) (sym is)
          ((le, some.0), (behind.0, behind.1))
    ]

sorted_ascend : (ps : List (ℕ × Place)) → T (is_sorted nat_cmp ps) → ExtentsAscend (extents_of ps)
sorted_ascend [] sorted = tt
sorted_ascend (p ∷ ps) sorted =
    let one : page_end (single p) ≡ p.0 + 1 = omega (arith, alone_count p.1) in
    let later = subst (λ m. From m ps) (sym one) (all_later p.0 ps (both_first _ (is_sorted nat_cmp ps) sorted)) in
    (grown_ascend ps (single p) 0 (both_second (below_all nat_cmp p.0 ps) _ sorted) later (omega arith)).1

pub extents_ascend : (pages : PageMap) → ExtentsAscend (extents_of (entries pages))
extents_ascend pages = sorted_ascend (entries pages) (entries_sorted pages)

-- those behind others ascend as all do
pub ascend_behind : (xs ys : List Extent) → ExtentsAscend (xs ++ ys) → ExtentsAscend ys
ascend_behind [] ys ascend = ascend
ascend_behind (x ∷ xs) ys ascend = ascend_behind xs ys ascend.1

-- ---- they are as long as they get

-- two bodies begin on the same unit or slot
abbrev BeginAlike : Body → Body → Type 0
BeginAlike (private unit csums) (private other more) = unit ≡ other
BeginAlike (shared sbid first count) (shared blob index more) = (sbid ≡ blob) × (first ≡ index)
BeginAlike body other = ⊥

alike_itself : (body : Body) → BeginAlike body body
alike_itself (private unit csums) = refl
alike_itself (shared sbid first count) = (refl, refl)

-- a page more leaves where a body begins
alike_longer : (head body : Body) (p : Place) → BeginAlike head (longer body p) → BeginAlike head body
alike_longer (private unit csums) (private other more) p is = is
alike_longer (shared sbid first count) (shared blob index more) p is = is
alike_longer (private unit csums) (shared blob index more) p is = absurd is
alike_longer (shared sbid first count) (private other more) p is = absurd is

-- of the extents grown from one, the first begins as it does
record BeginsAs (e : Extent) (es : List Extent) : Type 0 where
  pub head : Extent
  pub others : List Extent
  pub are : es ≡ head ∷ others
  pub first : head.first ≡ e.first
  pub alike : BeginAlike head.body e.body

grown_begins : (ps : List (ℕ × Place)) (e : Extent) → BeginsAs e (extents_from e ps)
grown_begins [] e = record { head = e; others = []; are = refl; first = refl; alike = alike_itself e.body }
grown_begins (p ∷ ps) e = elim (cases_Bool (follows e p)) [
  | inl is ↦
      let b = grown_begins ps (more e p) in
      record { head = b.head; others = b.others; are = ap (λ t. cond t (extents_from (more e p) ps) (e ∷ extents_from (single p) ps)) is ∙ b.are; first = b.first; alike = alike_longer b.head.body e.body p.1 b.alike }
  | inr is ↦ record { head = e; others = extents_from (single p) ps; are = ap (λ t. cond t (extents_from (more e p) ps) (e ∷ extents_from (single p) ps)) is; first = refl; alike = alike_itself e.body }
]

next_alone : (body head : Body) (p : Place) → BeginAlike head (alone p) → IsBehind body head → IsNextPlace body p
next_alone (private unit csums) (private other more) (own at csum) alike is = sym alike ∙ is
next_alone (shared sbid first count) (shared blob index more) (slot s i) alike is = (sym alike.0 ∙ is.0, sym alike.1 ∙ is.1)
next_alone (private unit csums) (private other more) (slot s i) alike is = absurd alike
next_alone (shared sbid first count) (shared blob index more) (own at csum) alike is = absurd alike
next_alone (private unit csums) (shared blob index more) p alike is = absurd is
next_alone (shared sbid first count) (private other more) p alike is = absurd is

behind_joins : (e : Extent) (p : ℕ × Place) (es : List Extent) → follows e p ≡ false → BeginsAs (single p) es → NoneJoins es → NoneJoins (e ∷ es)
behind_joins e p es apart b none =
    subst (λ l. NoneJoins (e ∷ l)) (sym b.are) (
      (λ joins. absurd (let yes = next_follows e p (record { few = joins.few; page = sym b.first ∙ joins.page; place = next_alone e.body b.head.body p.1 b.alike joins.next }) in cc)),
      subst NoneJoins b.are none,
    )

grown_longest : (ps : List (ℕ × Place)) (e : Extent) → NoneJoins (extents_from e ps)
grown_longest [] e = tt
grown_longest (p ∷ ps) e = elim (cases_Bool (follows e p)) [
  | inl is ↦ subst (λ t. NoneJoins (cond t (extents_from (more e p) ps) (e ∷ extents_from (single p) ps))) (sym is) (grown_longest ps (more e p))
  | inr is ↦ subst (λ t. NoneJoins (cond t (extents_from (more e p) ps) (e ∷ extents_from (single p) ps))) (sym is)
      (behind_joins e p (extents_from (single p) ps) is (grown_begins ps (single p)) (grown_longest ps (single p)))
]

pub extents_longest : (ps : List (ℕ × Place)) → NoneJoins (extents_of ps)
extents_longest [] = tt
extents_longest (p ∷ ps) = grown_longest ps (single p)

-- ---- where a page stands

module _ (page : ℕ) where
  find_step : (p : ℕ × Place) (ps : List (ℕ × Place)) → (page < p.0) ⊎ (p.0 < page) → find nat_cmp page (p ∷ ps) ≡ find nat_cmp page ps
  find_step p ps apart = elim apart [
    | inl lt ↦ ap (λ r. cond (is_eq r) (Some p.1) (find nat_cmp page ps)) (cmp_less page p.0 lt)
    | inr lt ↦ ap (λ r. cond (is_eq r) (Some p.1) (find nat_cmp page ps)) (cmp_greater page p.0 lt)
  ]

  find_here : (p : ℕ × Place) (ps : List (ℕ × Place)) → page ≡ p.0 → find nat_cmp page (p ∷ ps) ≡ Some p.1
  find_here p ps is = ap (λ r. cond (is_eq r) (Some p.1) (find nat_cmp page ps)) (cmp_equal page p.0 is)

  module _ (e : Extent) (rest : List (ℕ × Place)) where
    find_outside : (n k : ℕ) → (page < e.first + k) ⊎ (e.first + k + n ≤ page)
        → find nat_cmp page (map (page_at e) (range_with_len k n) ++ rest) ≡ find nat_cmp page rest
    find_outside zero k out = refl
    find_outside (suc n) k out =
        let later : (page < e.first + (k + 1)) ⊎ (e.first + (k + 1) + n ≤ page) = elim out [ inl lt ↦ inl (omega (arith, lt)) | inr le ↦ inr (omega (arith, le)) ] in
        let apart : (page < e.first + k) ⊎ (e.first + k < page) = elim out [ inl lt ↦ inl lt | inr le ↦ inr (omega (arith, le)) ] in
        find_step (page_at e k) (map (page_at e) (range_with_len (k + 1) n) ++ rest) apart ∙ find_outside n (k + 1) later

    find_inside : (n k : ℕ) → e.first + k ≤ page → page < e.first + k + n
        → find nat_cmp page (map (page_at e) (range_with_len k n) ++ rest) ≡ Some (place_in e.body (page - e.first))
    find_inside zero k le lt = absurd (omega (arith, le, lt))
    find_inside (suc n) k le lt = elim (cases_lt (e.first + k) page) [
      | inl less ↦
          find_step (page_at e k) (map (page_at e) (range_with_len (k + 1) n) ++ rest) (inr less) ∙ find_inside n (k + 1) (omega (arith, less)) (omega (arith, lt))
      | inr more ↦
          let here : page ≡ e.first + k = omega (arith, le, more) in
          let i : k ≡ page - e.first = omega (arith, here) in
          find_here (page_at e k) (map (page_at e) (range_with_len (k + 1) n) ++ rest) here ∙ ap (λ j. Some (place_in e.body j)) i
    ]

  pub place_found : (es : List Extent) → place_of es page ≡ find nat_cmp page (flat_map extent_pages es)
  place_found [] = refl
  place_found (e ∷ es) = elim (page_cases e page) [
    | inl has ↦
        place_here e es page has.0 has.1
        ∙ sym (find_inside e (flat_map extent_pages es) (page_count e.body) 0 (omega (arith, has.0)) (omega (arith, has.1)))
    | inr out ↦
        let bounds : (page < e.first + 0) ⊎ (e.first + 0 + page_count e.body ≤ page) =
        elim out [ inl lt ↦ inl (omega (arith, lt)) | inr le ↦ inr (omega (arith, le)) ] in
        place_behind e es page out ∙ place_found es ∙ sym (find_outside e (flat_map extent_pages es) (page_count e.body) 0 bounds)
  ]

pub extents_places : (pages : PageMap) (page : ℕ) → place_of (extents_of (entries pages)) page ≡ finite.get pages page
extents_places pages page = place_found page (extents_of (entries pages)) ∙ ap (find nat_cmp page) (extents_back (entries pages)) ∙ sym (get-entries pages page)

-- ---- what holds of all pages of a map

-- pages in order, from one on
found_from : (n page : ℕ) (v : Place) (ps : List (ℕ × Place)) → From n ps → find nat_cmp page ps ≡ Some v → n ≤ page
found_from n page v [] from is = absurd cc
found_from n page v (p ∷ ps) from is = elim (cases_lt page p.0) [
  | inl lt ↦ found_from n page v ps from.1 (sym (find_step page p ps (inl lt)) ∙ is)
  | inr le ↦ omega (arith, le, from.0)
]

found_all : (Q : ℕ × Place → Type 0) (ps : List (ℕ × Place)) → T (is_sorted nat_cmp ps)
    → ((page : ℕ) (place : Place) → find nat_cmp page ps ≡ Some place → Q (page, place)) → AllByRecursion Q ps
found_all Q [] sorted has = tt
found_all Q (p ∷ ps) sorted has =
    let later = all_later p.0 ps (both_first _ (is_sorted nat_cmp ps) sorted) in (
      has p.0 p.1 (find_here p.0 p ps refl),
      found_all Q ps (both_second (below_all nat_cmp p.0 ps) _ sorted)
          (λ page place is. has page place (find_step page p ps (inr (omega (arith, found_from (p.0 + 1) page place ps later is))) ∙ is)),
    )

-- what holds of each page that is found holds of all entries
module _ (pages : PageMap) where
  all_entries : (Q : ℕ × Place → Type 0) → ((page : ℕ) (place : Place) → finite.get pages page ≡ Some place → Q (page, place)) → AllByRecursion Q (entries pages)
  all_entries Q has = found_all Q (entries pages) (entries_sorted pages) (λ page place is. has page place (get-entries pages page ∙ is))

  pub extents_fits : (w : Width) → ((page : ℕ) (place : Place) → finite.get pages page ≡ Some place → FitsPage w (page, place))
      → AllByRecursion (FitsExtent w) (extents_of (entries pages))
  extents_fits w has = extents_fit w (entries pages) (all_entries (FitsPage w) has)

  pub extents_within : (limit : ℕ) → ((page : ℕ) (place : Place) → finite.get pages page ≡ Some place → page < limit)
      → AllByRecursion (λ e. page_end e ≤ limit) (extents_of (entries pages))
  extents_within limit has = pages_within limit (entries pages) (all_entries (λ p. p.0 < limit) has)

  pub extents_on : (low high : ℕ) → ((page : ℕ) (place : Place) → finite.get pages page ≡ Some place → StandsWithin low high place)
      → AllByRecursion (λ e. IsBodyWithin low high e.body) (extents_of (entries pages))
  extents_on low high has = units_within low high (entries pages) (all_entries (λ p. StandsWithin low high p.1) has)

pub one_map : (a b : PageMap) → extents_of (entries a) ≡ extents_of (entries b) → a ≡ b
one_map a b is = same a b (λ q. sym (extents_places a q) ∙ ap (λ es. place_of es q) is ∙ extents_places b q)

-- Pages found among extents in their order.
use Rattle.std.proofs.Common.{◌≡◌, inl, inr, ℕ, ◌-◌, ◌<◌, ◌≤◌, cond, List, [], ◌∷◌, ◌++◌, Option, Some, None, refl, sym, ap, subst, ◌∙◌, arith, append_assoc}
use Rattle.std.specs.Prelude.{nat_lt, nat_le, ◌&&◌}
use Rattle.std.specs.List.{AllByRecursion}
use Rattle.std.proofs.lemmas.Bool.{lt-ltb, le-ltb, lt-leb, le-leb, cases_lt, cond-true, cond-false, and_left, and_right, and_from}
use Rattle.row_format.specs.Prelude.{Extent, Place, place_in, page_end, place_of, ExtentsAscend}
use Rattle.blob_map.proofs.Forms.{ascend_behind}
use Rattle.page_lookup.specs.Prelude.{place_found, EndBehind, LeavesOut, BeginsBy}

-- what is looked for behind the first extent's first page
abbrev from_first : Extent → List Extent → ℕ → Option Place
from_first e es page = cond (nat_lt page (page_end e)) (Some (place_in e.body (page - e.first))) (place_found es page)

-- a page in front of the first extent is a hole
pub found_before : (e : Extent) (es : List Extent) (page : ℕ) → page < e.first → place_found (e ∷ es) page ≡ None
found_before e es page lt = cond-true (nat_lt page e.first) None (from_first e es page) (lt-ltb page e.first lt)

-- one of its pages stands there
pub found_in : (e : Extent) (es : List Extent) (page : ℕ) → e.first ≤ page → page < page_end e
    → place_found (e ∷ es) page ≡ Some (place_in e.body (page - e.first))
found_in e es page from lt =
    cond-false (nat_lt page e.first) None (from_first e es page) (le-ltb page e.first from)
    ∙ cond-true (nat_lt page (page_end e)) (Some (place_in e.body (page - e.first))) (place_found es page) (lt-ltb page (page_end e) lt)

-- one behind it is looked for in the others
pub found_behind : (e : Extent) (es : List Extent) (page : ℕ) → page_end e ≤ page → place_found (e ∷ es) page ≡ place_found es page
found_behind e es page le =
    cond-false (nat_lt page e.first) None (from_first e es page) (le-ltb page e.first (omega (arith, le)))
    ∙ cond-false (nat_lt page (page_end e)) (Some (place_in e.body (page - e.first))) (place_found es page) (le-ltb page (page_end e) le)

-- ---- extents that ascend

place_before : (e : Extent) (es : List Extent) (page : ℕ) → page < e.first → place_of (e ∷ es) page ≡ place_of es page
place_before e es page lt =
    cond-false (nat_le e.first page && nat_lt page (page_end e)) (Some (place_in e.body (page - e.first))) (place_of es page)
    (and_left (nat_le e.first page) (nat_lt page (page_end e)) (lt-leb e.first page lt))

no_place : (es : List Extent) (page : ℕ) → AllByRecursion (λ e. page < e.first) es → place_of es page ≡ None
no_place [] page before = refl
no_place (e ∷ es) page before = place_before e es page before.0 ∙ no_place es page before.1

later_before : (e : Extent) (page : ℕ) → page < e.first → (es : List Extent) → AllByRecursion (λ later. page_end e ≤ later.first) es
    → AllByRecursion (λ later. page < later.first) es
later_before e page lt [] from = tt
later_before e page lt (x ∷ es) from = (omega (arith, lt, from.0), later_before e page lt es from.1)

-- the place that is found is the page's
pub found_is : (es : List Extent) (page : ℕ) → ExtentsAscend es → place_found es page ≡ place_of es page
found_is [] page ascend = refl
found_is (e ∷ es) page ascend = elim (cases_lt page e.first) [
  | inl lt ↦ found_before e es page lt ∙ sym (place_before e es page lt ∙ no_place es page (later_before e page lt es ascend.0))
  | inr from ↦ elim (cases_lt page (page_end e)) [
    | inl lt ↦ found_in e es page from lt ∙ sym
        (cond-true (nat_le e.first page && nat_lt page (page_end e)) (Some (place_in e.body (page - e.first))) (place_of es page)
        (and_from (nat_le e.first page) (nat_lt page (page_end e)) (le-leb e.first page from) (lt-ltb page (page_end e) lt)))
    | inr le ↦ found_behind e es page le ∙ found_is es page ascend.1 ∙ sym
        (cond-false (nat_le e.first page && nat_lt page (page_end e)) (Some (place_in e.body (page - e.first))) (place_of es page)
        (and_right (nat_le e.first page) (nat_lt page (page_end e)) (le-ltb page (page_end e) le)))
  ]
]

-- ---- extents left out

-- none is
pub leaves_none : (page : ℕ) (es : List Extent) → LeavesOut page es es
leaves_none page es = record { front = []; is = refl; ends = tt }

all_joined : (page : ℕ) (xs ys : List Extent) → AllByRecursion (λ e. page_end e ≤ page) xs → AllByRecursion (λ e. page_end e ≤ page) ys
    → AllByRecursion (λ e. page_end e ≤ page) (xs ++ ys)
all_joined page [] ys xall yall = yall
all_joined page (x ∷ xs) ys xall yall = (xall.0, all_joined page xs ys xall.1 yall)

-- more and more
pub leaves_more : (page : ℕ) (a b c : List Extent) → LeavesOut page a b → LeavesOut page b c → LeavesOut page a c
leaves_more page a b c one two = record {
  front = one.front ++ two.front;
  is = one.is ∙ ap (λ (l : List Extent). one.front ++ l) two.is ∙ sym (append_assoc one.front two.front c);
  ends = all_joined page one.front two.front one.ends two.ends;
}

-- whatever stands behind
pub leaves_before : (page : ℕ) (old new behind : List Extent) → LeavesOut page old new → LeavesOut page (old ++ behind) (new ++ behind)
leaves_before page old new behind left = record {
  front = left.front;
  is = ap (λ (l : List Extent). l ++ behind) left.is ∙ append_assoc left.front new behind;
  ends = left.ends;
}

-- one that ends in front of the page
pub leaves_one : (page : ℕ) (e : Extent) (es : List Extent) → page_end e ≤ page → LeavesOut page (e ∷ es) es
leaves_one page e es ends = record { front = e ∷ []; is = refl; ends = (ends, tt) }

later_ends : (from page : ℕ) → from ≤ page → (es : List Extent) → AllByRecursion (λ e. page_end e ≤ from) es → AllByRecursion (λ e. page_end e ≤ page) es
later_ends from page le [] all = tt
later_ends from page le (e ∷ es) all = (omega (arith, le, all.0), later_ends from page le es all.1)

-- seen from a later page
pub leaves_later : (from page : ℕ) (old new : List Extent) → from ≤ page → LeavesOut from old new → LeavesOut page old new
leaves_later from page old new le left = record { front = left.front; is = left.is; ends = later_ends from page le left.front left.ends }

behind_all : (page : ℕ) (front es : List Extent) → AllByRecursion (λ e. page_end e ≤ page) front → place_found (front ++ es) page ≡ place_found es page
behind_all page [] es all = refl
behind_all page (e ∷ front) es all = found_behind e (front ++ es) page all.0 ∙ behind_all page front es all.1

-- the page is found among those that are left
pub found_among : (page : ℕ) (old new : List Extent) → LeavesOut page old new → place_found new page ≡ place_found old page
found_among page old new left = sym (ap (λ (es : List Extent). place_found es page) left.is ∙ behind_all page left.front new left.ends)

-- those that are left ascend
pub left_ascend : (page : ℕ) (old new : List Extent) → ExtentsAscend old → LeavesOut page old new → ExtentsAscend new
left_ascend page old new ascend left = ascend_behind left.front new (subst ExtentsAscend left.is ascend)

at_most : (x : Extent) (page : ℕ) (front : List Extent) (e : Extent) (es : List Extent)
    → AllByRecursion (λ later. page_end x ≤ later.first) (front ++ e ∷ es) → e.first ≤ page → page_end x ≤ page
at_most x page [] e es all begins = omega (arith, all.0, begins)
at_most x page (y ∷ front) e es all begins = at_most x page front e es all.1 begins

ends_before : (page : ℕ) (front : List Extent) (e : Extent) (es : List Extent) → ExtentsAscend (front ++ e ∷ es) → e.first ≤ page
    → AllByRecursion (λ x. page_end x ≤ page) front
ends_before page [] e es ascend begins = tt
ends_before page (x ∷ front) e es ascend begins = (at_most x page front e es ascend.0 begins, ends_before page front e es ascend.1 begins)

-- those before one that begins with the page or before it
pub leaves_before_begun : (page : ℕ) (front es : List Extent) → ExtentsAscend (front ++ es) → BeginsBy page es → LeavesOut page (front ++ es) es
leaves_before_begun page front [] ascend begins = absurd begins
leaves_before_begun page front (e ∷ es) ascend begins = record { front = front; is = refl; ends = ends_before page front e es ascend begins }

-- where extents are left, the others don't matter
pub found_at_front : (page : ℕ) (es behind : List Extent) → EndBehind page es → (es ≡ [] → ⊥) → place_found (es ++ behind) page ≡ place_found es page
found_at_front page [] behind ends some = absurd (some refl)
found_at_front page (e ∷ es) behind ends some = elim (cases_lt page e.first) [
  | inl lt ↦ found_before e (es ++ behind) page lt ∙ sym (found_before e es page lt)
  | inr from ↦ found_in e (es ++ behind) page from ends ∙ sym (found_in e es page from ends)
]

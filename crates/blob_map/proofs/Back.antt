-- The pages of the extents of pages are these pages.
use Rattle.std.proofs.Common.{◌≡◌, inl, inr, ℕ, zero, suc, ◌+◌, ◌<◌, ◌≤◌, ◌==◌, Bool, true, false, cond, List, [], ◌∷◌, ◌++◌, length, map, refl, sym, ap, ◌∙◌, arith, append_assoc}
use Rattle.std.specs.Prelude.{◌&&◌, nat_lt}
use Rattle.std.specs.List.{range_with_len, flat_map}
use Rattle.std.proofs.lemmas.Bool.{cases_Bool}
use Rattle.std.proofs.lemmas.Bool.Decides.{nat_tests}
use Rattle.std.proofs.lemmas.List.{length_push, get_or_append_left, get_or_at, map-append}
use Rattle.row_format.specs.Prelude.{Extent, Body, private, shared, Place, own, slot, place_in, page_count, page_end}
use Rattle.blob_map.specs.Prelude.{csum_of, extent_pages, single, is_next, follows, longer, more, extents_from, extents_of}

same_number : (a b : ℕ) → (a == b) ≡ true → a ≡ b
same_number a b is = grind (arith, nat_tests, is)

below : (a b : ℕ) → nat_lt a b ≡ true → a < b
below a b is = grind (arith, nat_tests, is)

both_first : (a b : Bool) → (a && b) ≡ true → a ≡ true
both_first true b is = refl
both_first false b is = is

both_second : (a b : Bool) → (a && b) ≡ true → b ≡ true
both_second true b is = is
both_second false b is = cc

-- the place is the next behind those of a body
abbrev pub IsNextPlace : Body → Place → Type 0
IsNextPlace (private unit csums) (own at csum) = at ≡ unit + length csums
IsNextPlace (shared sbid first count) (slot blob index) = (blob ≡ sbid) × (index ≡ first + count)
IsNextPlace body place = ⊥

next_means : (body : Body) (place : Place) → is_next body place ≡ true → IsNextPlace body place
next_means (private unit csums) (own at csum) is = same_number at (unit + length csums) is
next_means (shared sbid first count) (slot blob index) is = (
  same_number blob sbid (both_first (blob == sbid) (index == first + count) is),
  same_number index (first + count) (both_second (blob == sbid) (index == first + count) is),
)
next_means (private unit csums) (slot blob index) is = absurd cc
next_means (shared sbid first count) (own at csum) is = absurd cc

both_tests : (a b c d : ℕ) → a ≡ b → c ≡ d → (a == b && c == d) ≡ true
both_tests a b c d p q = grind (arith, nat_tests)

is_next_holds : (body : Body) (place : Place) → IsNextPlace body place → is_next body place ≡ true
is_next_holds (private unit csums) (own at csum) is = let e : at ≡ unit + length csums = is in grind (arith, nat_tests, e)
is_next_holds (shared sbid first count) (slot blob index) is = both_tests blob sbid index (first + count) is.0 is.1
is_next_holds (private unit csums) (slot blob index) is = absurd is
is_next_holds (shared sbid first count) (own at csum) is = absurd is

-- what it is to follow
pub record IsNext (e : Extent) (p : ℕ × Place) : Type 0 where
  pub few : page_count e.body < 256
  pub page : p.0 ≡ page_end e
  pub place : IsNextPlace e.body p.1

pub follows_means : (e : Extent) (p : ℕ × Place) → follows e p ≡ true → IsNext e p
follows_means e p is =
    let rest = both_second (nat_lt (page_count e.body) 256) _ is in
    record {
      few = below (page_count e.body) 256 (both_first _ (p.0 == page_end e && is_next e.body p.1) is);
      page = same_number p.0 (page_end e) (both_first _ (is_next e.body p.1) rest);
      place = next_means e.body p.1 (both_second (p.0 == page_end e) _ rest);
    }

tests_hold : (n m a b : ℕ) (t : Bool) → n < m → a ≡ b → t ≡ true → (nat_lt n m && (a == b && t)) ≡ true
tests_hold n m a b t p q r = ap (λ x. nat_lt n m && (a == b && x)) r ∙ grind (arith, nat_tests)

pub next_follows : (e : Extent) (p : ℕ × Place) → IsNext e p → follows e p ≡ true
next_follows e p is = tests_hold (page_count e.body) 256 p.0 (page_end e) (is_next e.body p.1) is.few is.page (is_next_holds e.body p.1 is.place)

pub longer_by_one : (body : Body) (p : Place) → page_count (longer body p) ≡ page_count body + 1
longer_by_one (private unit csums) p = length_push csums (csum_of p)
longer_by_one (shared sbid first count) p = refl

-- the places before stay
place_kept : (body : Body) (p : Place) (k : ℕ) → k < page_count body → place_in (longer body p) k ≡ place_in body k
place_kept (private unit csums) p k lt = ap (λ c. own (unit + k) c) (get_or_append_left csums (csum_of p ∷ []) 0 k lt)
place_kept (shared sbid first count) p k lt = refl

-- and the new one is last
place_new : (body : Body) (p : Place) → IsNextPlace body p → place_in (longer body p) (page_count body) ≡ p
place_new (private unit csums) (own at csum) is =
    ap (λ c. own (unit + length csums) c) (get_or_at csums csum [] 0 (length csums) refl) ∙ ap (λ u. own u csum) (sym is)
place_new (shared sbid first count) (slot blob index) is = λ i. slot (sym is.0 i) (sym is.1 i)
place_new (private unit csums) (slot blob index) is = absurd is
place_new (shared sbid first count) (own at csum) is = absurd is

range_push : (a n : ℕ) → range_with_len a (n + 1) ≡ range_with_len a n ++ (a + n) ∷ []
range_push a n = let e : n + 1 ≡ suc n = omega arith in ap (range_with_len a) e ∙ pushed a n
  where
    pushed : (a n : ℕ) → range_with_len a (suc n) ≡ range_with_len a n ++ (a + n) ∷ []
    pushed a zero = let e : a ≡ a + 0 = omega arith in ap (λ k. k ∷ []) e
    pushed a (suc n) = let e : (a + 1) + n ≡ a + suc n = omega arith in ap (λ xs. a ∷ xs) (pushed (a + 1) n ∙ ap (λ k. range_with_len (a + 1) n ++ k ∷ []) e)

map_range_same : {X : Type 0} (f g : ℕ → X) (a n : ℕ) → ((k : ℕ) → a ≤ k → k < a + n → f k ≡ g k) → map f (range_with_len a n) ≡ map g (range_with_len a n)
map_range_same f g a zero same = refl
map_range_same f g a (suc n) same = ap (λ x. x ∷ map f (range_with_len (a + 1) n)) (same a (omega arith) (omega arith))
    ∙ ap (λ xs. g a ∷ xs) (map_range_same f g (a + 1) n (λ k le lt. same k (omega (arith, le)) (omega (arith, lt))))

pub pages_more : (e : Extent) (p : ℕ × Place) → p.0 ≡ page_end e → IsNextPlace e.body p.1 → extent_pages (more e p) ≡ extent_pages e ++ p ∷ []
pages_more e p page place =
    let count : ℕ = page_count e.body in
    let f : ℕ → ℕ × Place = λ k. (e.first + k, place_in (longer e.body p.1) k) in
    ap (λ n. map f (range_with_len 0 n)) (longer_by_one e.body p.1)
    ∙ ap (map f) (range_push 0 count)
    ∙ map-append f (range_with_len 0 count) ((0 + count) ∷ [])
    ∙ ap (λ xs. xs ++ f (0 + count) ∷ []) (map_range_same f (λ k. (e.first + k, place_in e.body k)) 0 count
    (λ k _ lt. ap (λ q. (e.first + k, q)) (place_kept e.body p.1 k (omega (arith, lt)))))
    ∙ ap (λ n. extent_pages e ++ (e.first + n, place_in (longer e.body p.1) n) ∷ []) (let none : 0 + count ≡ count = omega arith in none)
    ∙ ap (λ q. extent_pages e ++ (e.first + count, q) ∷ []) (place_new e.body p.1 place)
    ∙ ap (λ n. extent_pages e ++ (n, p.1) ∷ []) (sym page)

single_pages : (page : ℕ) (place : Place) → extent_pages (single (page, place)) ≡ (page, place) ∷ []
single_pages page (own at csum) =
    let same_page : page + 0 ≡ page = omega arith in
    let same_unit : at + 0 ≡ at = omega arith in
    ap (λ n. (n, own (at + 0) csum) ∷ []) same_page ∙ ap (λ u. (page, own u csum) ∷ []) same_unit
single_pages page (slot sbid index) =
    let same_page : page + 0 ≡ page = omega arith in
    let same_slot : index + 0 ≡ index = omega arith in
    ap (λ n. (n, slot sbid (index + 0)) ∷ []) same_page ∙ ap (λ k. (page, slot sbid k) ∷ []) same_slot

pages_single : (p : ℕ × Place) → extent_pages (single p) ≡ p ∷ []
pages_single p = single_pages p.0 p.1

pub grown_back : (ps : List (ℕ × Place)) (e : Extent) → flat_map extent_pages (extents_from e ps) ≡ extent_pages e ++ ps
grown_back [] e = refl
grown_back (p ∷ ps) e = elim (cases_Bool (follows e p)) [
  | inl is ↦
      ap (λ t. flat_map extent_pages (cond t (extents_from (more e p) ps) (e ∷ extents_from (single p) ps))) is ∙ grown_back ps (more e p)
      ∙ ap (λ xs. xs ++ ps) (pages_more e p (follows_means e p is).page (follows_means e p is).place) ∙ append_assoc (extent_pages e) (p ∷ []) ps
  | inr is ↦
      ap (λ t. flat_map extent_pages (cond t (extents_from (more e p) ps) (e ∷ extents_from (single p) ps))) is
      ∙ ap (λ xs. extent_pages e ++ xs) (grown_back ps (single p) ∙ ap (λ xs. xs ++ ps) (pages_single p))
]

-- the extents have exactly the pages
pub extents_back : (ps : List (ℕ × Place)) → flat_map extent_pages (extents_of ps) ≡ ps
extents_back [] = refl
extents_back (p ∷ ps) = grown_back ps (single p) ∙ ap (λ xs. xs ++ ps) (pages_single p)

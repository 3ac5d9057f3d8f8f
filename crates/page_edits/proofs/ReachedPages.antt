-- The pages that a range of bytes reaches: all but the first and the last one have no other bytes than those of the range.
use Rattle.std.proofs.Common.{◌≡◌, inl, inr, ℕ, zero, suc, ◌+◌, ◌-◌, ◌*◌, ◌/◌, ◌<◌, ◌≤◌, Bool, true, false, cond, List, [], ◌∷◌, ◌++◌, refl, sym, ap, ◌∙◌, arith}
use Rattle.std.specs.Prelude.{nat_lt, filter}
use Rattle.std.specs.List.{range_with_len}
use Rattle.std.proofs.lemmas.Bool.Decides.{nat_tests}
use Rattle.std.proofs.lemmas.List.Elements.{filter-append}
use Rattle.plan_drafts.specs.declared.draft.Draft.{Draft}
use Rattle.plan_drafts.specs.Edits.{covers_whole, gets_bytes, pages_touched}
use Rattle.page_edits.specs.declared.spans.Span.{Span}
use Rattle.page_edits.specs.Ranges.{fate_on}
use Rattle.page_edits.proofs.Lists.{In}
use Rattle.page_edits.proofs.PageRanges.{of_touched}
use Rattle.page_edits.proofs.Fates.{gets_all}
use Rattle.page_edits.proofs.DraftedPages.{touched_has}

pub lt_true : (a b : ℕ) → a < b → nat_lt a b ≡ true
lt_true a b lt = grind (arith, nat_tests)

pub lt_false : (a b : ℕ) → b ≤ a → nat_lt a b ≡ false
lt_false a b le = grind (arith, nat_tests)

-- ---- tests over a run of pages

pub range_last : (a n : ℕ) → range_with_len a (suc n) ≡ range_with_len a n ++ (a + n) ∷ []
range_last a zero = ap (λ k. k ∷ []) (let e : a ≡ a + 0 = omega arith in e)
range_last a (suc n) =
    ap (λ l. a ∷ l) (range_last (a + 1) n ∙ ap (λ k. range_with_len (a + 1) n ++ k ∷ []) (let e : a + 1 + n ≡ a + suc n = omega arith in e))

filter_none : (p : ℕ → Bool) (a n : ℕ) → ((k : ℕ) → a ≤ k → k < a + n → p k ≡ false) → filter p (range_with_len a n) ≡ []
filter_none p a zero none = refl
filter_none p a (suc n) none =
    ap (λ b. cond b (a ∷ filter p (range_with_len (a + 1) n)) (filter p (range_with_len (a + 1) n))) (none a (omega arith) (omega arith))
    ∙ filter_none p (a + 1) n (λ k le lt. none k (omega (arith, le)) (omega (arith, lt)))

filter_all : (p : ℕ → Bool) (xs : List ℕ) → ((x : ℕ) → In xs x → p x ≡ true) → filter p xs ≡ xs
filter_all p [] all = refl
filter_all p (x ∷ xs) all = ap (λ b. cond b (x ∷ filter p xs) (filter p xs)) (all x (inl refl)) ∙ ap (λ l. x ∷ l) (filter_all p xs (λ y is. all y (inr is)))

-- the pages of two or more that pass a test which none between the first and the last one passes
pub ends_pass : (p : ℕ → Bool) (a b : ℕ) → a + 1 < b → ((k : ℕ) → a < k → k + 1 < b → p k ≡ false)
    → filter p (a ∷ []) ++ filter p ((b - 1) ∷ []) ≡ filter p (range_with_len a (b - a))
ends_pass p a b lt none =
    let size : b - a ≡ suc (suc (b - a - 2)) = omega arith in
    let last : a + 1 + (b - a - 2) ≡ b - 1 = omega arith in
    sym (
    ap (λ k. filter p (range_with_len a k)) size
    ∙ filter-append p (a ∷ []) (range_with_len (a + 1) (suc (b - a - 2)))
    ∙ ap (λ l. filter p (a ∷ []) ++ filter p l) (range_last (a + 1) (b - a - 2))
    ∙ ap (λ l. filter p (a ∷ []) ++ l) (filter-append p (range_with_len (a + 1) (b - a - 2)) ((a + 1 + (b - a - 2)) ∷ []))
    ∙ ap (λ l. filter p (a ∷ []) ++ (l ++ filter p ((a + 1 + (b - a - 2)) ∷ [])))
    (filter_none p (a + 1) (b - a - 2) (λ k le small. none k (omega (arith, le)) (omega (arith, small))))
    ∙ ap (λ k. filter p (a ∷ []) ++ filter p (k ∷ [])) last
    )

-- ---- the pages between

pub inner_whole : (off end k : ℕ) → off / 4096 < k → k + 1 < (end + 4095) / 4096 → covers_whole off end k ≡ true
inner_whole off end k from to =
    let low : off ≤ 4096 * k = omega arith in
    let high : 4096 * k + 4096 ≤ end = omega arith in
    grind (arith, nat_tests)

-- all pages of a range that isn't cleared get new bytes
pub all_put : (s : Span) (d : Draft) → s.clears ≡ false
    → pages_touched s.off s.end ≡ filter (λ page. gets_bytes (fate_on s d page)) (pages_touched s.off s.end)
all_put s d lays = sym (filter_all (λ page. gets_bytes (fate_on s d page)) (pages_touched s.off s.end)
    (λ page is. gets_all s.off s.end s.clears d page (touched_has s.off s.end page (of_touched s.off s.end page is)) lays))

-- Extents that ascend, by their neighbours; and the pages of a size.
use Rattle.std.proofs.Common.{◌≡◌, inl, inr, subst, ℕ, zero, suc, ◌+◌, ◌/◌, ◌%◌, ◌<◌, ◌≤◌, min, List, [], ◌∷◌, length, get_or, sym, ◌∙◌, ap, arith}
use Rattle.std.specs.List.{AllByRecursion}
use Rattle.std.proofs.lemmas.Bool.{cases_lt}
use Rattle.std.proofs.lemmas.List.{get_or_default}
use Rattle.row_format.specs.Prelude.{Extent, page_end, ExtentsAscend}

-- of the first n extents each ends where the next begins, or before
abbrev pub InSteps : List Extent → ℕ → Type 0
InSteps es n = (k : ℕ) (d : Extent) → suc k < n → page_end (get_or es k d) ≤ (get_or es (suc k) d).first

rest_steps : (e : Extent) (es : List Extent) → InSteps (e ∷ es) (suc (length es)) → InSteps es (length es)
rest_steps e es h k d lt = h (suc k) d (omega (arith, lt))

all_from : (n : ℕ) (f : Extent) (fs : List Extent) → n ≤ f.first → InSteps (f ∷ fs) (suc (length fs)) → AllByRecursion (λ e. n ≤ e.first) (f ∷ fs)
all_from n f [] le h = (le, tt)
all_from n f (g ∷ fs) le h =
    let step : page_end f ≤ g.first = h 0 f (omega arith) in
    (le, all_from n g fs (omega (arith, le, step)) (rest_steps f (g ∷ fs) h))

steps_ascend : (es : List Extent) → InSteps es (length es) → ExtentsAscend es
steps_ascend [] h = tt
steps_ascend (e ∷ []) h = (tt, tt)
steps_ascend (e ∷ f ∷ es) h =
    let step : page_end e ≤ f.first = h 0 e (omega arith) in
    (all_from (page_end e) f es step (rest_steps e (f ∷ es) h), steps_ascend (f ∷ es) (rest_steps e (f ∷ es) h))

all_at : (n : ℕ) (es : List Extent) (k : ℕ) (d : Extent) → AllByRecursion (λ e. n ≤ e.first) es → k < length es → n ≤ (get_or es k d).first
all_at n [] k d all lt = absurd (omega arith)
all_at n (e ∷ es) zero d all lt = all.0
all_at n (e ∷ es) (suc k) d all lt = all_at n es k d all.1 (omega arith)

ascend_steps : (es : List Extent) → ExtentsAscend es → InSteps es (length es)
ascend_steps [] up k d lt = absurd (omega arith)
ascend_steps (e ∷ es) up zero d lt = all_at (page_end e) es 0 d up.0 (omega arith)
ascend_steps (e ∷ es) up (suc k) d lt = ascend_steps es up.1 k d (omega arith)

-- the neighbours were all looked at
pub ascending : (es : List Extent) (n : ℕ) → length es ≤ n → InSteps es n → ExtentsAscend es
ascending es n le h = steps_ascend es (λ k d lt. h k d (omega arith))

-- two neighbours overlap
pub overlapping : (es : List Extent) (i j : ℕ) (a b : Extent) → suc i ≡ j → j < length es → a ≡ get_or es i a → b ≡ get_or es j b → ¬ (page_end a ≤ b.first) → ¬ (ExtentsAscend es)
overlapping es i j a b next lt is then apart up =
    let first : page_end (get_or es i a) ≤ (get_or es (suc i) a).first = ascend_steps es up i a (omega (arith, next, lt)) in
    let second : get_or es (suc i) a ≡ b = get_or_default es (suc i) a b (omega (arith, next, lt)) ∙ ap (λ n. get_or es n b) next ∙ sym then in
    apart (subst (λ (e : Extent). page_end a ≤ e.first) second (subst (λ (e : Extent). page_end e ≤ (get_or es (suc i) a).first) (sym is) first))

pub one_step : (es : List Extent) (i j : ℕ) (a b : Extent) → suc i ≡ j → j < length es → a ≡ get_or es i a → b ≡ get_or es j b → page_end a ≤ b.first → InSteps es j → InSteps es (j + 1)
one_step es i j a b next lt is then le h k d less = elim (cases_lt (suc k) j) [
  | inl before ↦ h k d before
  | inr ge ↦
      let here : k ≡ i = omega (arith, next, ge, less) in
      let first : get_or es k d ≡ a = get_or_default es k d a (omega (arith, next, lt, here)) ∙ ap (λ n. get_or es n a) here ∙ sym is in
      let second : get_or es (suc k) d ≡ b = get_or_default es (suc k) d b (omega (arith, next, lt, here)) ∙ ap (λ n. get_or es n b) (ap suc here ∙ next) ∙ sym then in
      subst (λ (e : Extent). page_end (get_or es k d) ≤ e.first) (sym second) (subst (λ (e : Extent). page_end e ≤ b.first) (sym first) le)
]

pub pages_ceil : (size : ℕ) → size / 4096 + min 1 (size % 4096) ≡ (size + 4095) / 4096
pages_ceil size = omega arith

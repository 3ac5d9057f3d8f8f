-- Turns whose places ascend: where a place stands, and what a change of it and a further turn leave.
use Rattle.std.proofs.Common.{◌≡◌, inl, inr, ℕ, zero, suc, ◌+◌, ◌<◌, ◌≤◌, ◌==◌, Bool, true, false, cond, List, [], ◌∷◌, ◌++◌, length, drop, get_or, set, Option, Some, None, refl, sym, ap, subst, ◌∙◌, arith}
use Rattle.std.proofs.lemmas.Bool.{cases_lt, eq-eqb, ne_eqb, eqb-true, or_cases, false≢true}
use Rattle.op_sequencer.specs.declared.sequencer.Turn.{Turn}
use Rattle.op_sequencer.specs.Turns.{AscendFrom, IsAboveTurns, IsTurnAt, has_turn, done_at, ready, behind}

-- ---- a place below all others

pub none_below : (least place : ℕ) (ts : List Turn) → AscendFrom least ts → place < least → has_turn place ts ≡ true → ⊥
none_below least place [] up lt h = false≢true h
none_below least place (t ∷ ts) up lt h = elim (or_cases (t.place == place) (has_turn place ts) h) [
  | inl here ↦ absurd (omega (arith, up.0, lt, eqb-true t.place place here))
  | inr later ↦ none_below (t.place + 1) place ts up.1 (omega (arith, up.0, lt)) later
]

pub same_below : (least place : ℕ) (ts : List Turn) → AscendFrom least ts → place < least → ts ≡ done_at place ts
same_below least place [] up lt = refl
same_below least place (t ∷ ts) up lt =
    ap (λ (l : List Turn). t ∷ l) (same_below (t.place + 1) place ts up.1 (omega (arith, up.0, lt)))
    ∙ ap (λ (b : Bool). cond b (record t { done = true }) t ∷ done_at place ts) (sym (ne_eqb t.place place (λ e. absurd (omega (arith, up.0, lt, e)))))

-- ---- by index

pub from_least : (least : ℕ) (ts : List Turn) (i : ℕ) (d : Turn) → AscendFrom least ts → i < length ts → least ≤ (get_or ts i d).place
from_least least [] i d up lt = absurd (omega arith)
from_least least (t ∷ ts) zero d up lt = up.0
from_least least (t ∷ ts) (suc i) d up lt = omega (arith, up.0, from_least (t.place + 1) ts i d up.1 (omega arith))

pub not_falling : (least : ℕ) (ts : List Turn) (i j : ℕ) (d e : Turn) → AscendFrom least ts → i ≤ j → j < length ts
    → (get_or ts i d).place ≤ (get_or ts j e).place
not_falling least [] i j d e up le lt = absurd (omega arith)
not_falling least (t ∷ ts) zero zero d e up le lt = omega arith
not_falling least (t ∷ ts) zero (suc j) d e up le lt = omega (arith, from_least (t.place + 1) ts j e up.1 (omega arith))
not_falling least (t ∷ ts) (suc i) zero d e up le lt = absurd (omega arith)
not_falling least (t ∷ ts) (suc i) (suc j) d e up le lt = not_falling (t.place + 1) ts i j d e up.1 (omega arith) (omega arith)

-- the first turns are below a place, the ones behind an index aren't
abbrev pub AreBelow : ℕ → ℕ → List Turn → Type 0
AreBelow place low ts = (k : ℕ) (d : Turn) → k < low → (get_or ts k d).place < place

abbrev pub AreNotBelow : ℕ → ℕ → List Turn → Type 0
AreNotBelow place high ts = (k : ℕ) (d : Turn) → high ≤ k → k < length ts → place ≤ (get_or ts k d).place

pub more_below : (place mid : ℕ) (ts : List Turn) (m : Turn) → AscendFrom 0 ts → mid < length ts → (get_or ts mid m).place < place → AreBelow place (mid + 1) ts
more_below place mid ts m up lt less k d below = omega (arith, less, not_falling 0 ts k mid d m up (omega (arith, below)) lt)

pub more_not_below : (place mid : ℕ) (ts : List Turn) (m : Turn) → AscendFrom 0 ts → mid < length ts → place ≤ (get_or ts mid m).place → AreNotBelow place mid ts
more_not_below place mid ts m up lt le k d from within = omega (arith, le, not_falling 0 ts mid k m d up from within)

-- where the ones below end, there the place stands
pub stands_at : (place least low : ℕ) (ts : List Turn) → AscendFrom least ts → has_turn place ts ≡ true → AreBelow place low ts → AreNotBelow place low ts
    → IsTurnAt place low ts
stands_at place least low [] up there below rest = absurd (false≢true there)
stands_at place least zero (t ∷ ts) up there below rest = elim (or_cases (t.place == place) (has_turn place ts) there) [
  | inl here ↦ record { within = omega arith; has = λ d. eqb-true t.place place here }
  | inr later ↦ absurd (none_below (t.place + 1) place ts up.1 (omega (arith, rest zero t (omega arith) (omega arith))) later)
]
stands_at place least (suc low) (t ∷ ts) up there below rest = elim (or_cases (t.place == place) (has_turn place ts) there) [
  | inl here ↦ absurd (omega (arith, eqb-true t.place place here, below zero t (omega arith)))
  | inr later ↦
      let at : IsTurnAt place low ts = stands_at place (t.place + 1) low ts up.1 later (λ k d lt. below (suc k) d (omega (arith, lt)))
      (λ k d le lt. rest (suc k) d (omega (arith, le)) (omega (arith, lt))) in
      record { within = omega (arith, at.within); has = at.has }
]

-- ---- a turn that becomes done

pub set_is_done : (place least i : ℕ) (ts : List Turn) (x : Turn) → AscendFrom least ts → IsTurnAt place i ts → x ≡ get_or ts i x
    → set ts i (record x { done = true }) ≡ done_at place ts
set_is_done place least i [] x up at is = absurd (omega (arith, at.within))
set_is_done place least zero (t ∷ ts) x up at is =
    ap (λ (y : Turn). let z : Turn = record y { done = true } in z ∷ ts) is
    ∙ ap (λ (l : List Turn). let z : Turn = record t { done = true } in z ∷ l) (same_below (t.place + 1) place ts up.1 (omega (arith, at.has t)))
    ∙ ap (λ (b : Bool). cond b (record t { done = true }) t ∷ done_at place ts) (sym (eq-eqb t.place place (at.has t)))
set_is_done place least (suc i) (t ∷ ts) x up at is =
    ap (λ (l : List Turn). t ∷ l) (set_is_done place (t.place + 1) i ts x up.1 (record { within = omega (arith, at.within); has = at.has }) is)
    ∙ ap (λ (b : Bool). cond b (record t { done = true }) t ∷ done_at place ts)
    (sym (ne_eqb t.place place (λ e. absurd (omega (arith, e, at.has t, from_least (t.place + 1) ts i t up.1 (omega (arith, at.within)))))))

-- ---- the turns behind a place

by_index : (place least i : ℕ) (ts : List Turn) → AscendFrom least ts → IsTurnAt place i ts → behind place ts ≡ drop (suc i) ts
by_index place least i [] up at = absurd (omega (arith, at.within))
by_index place least zero (t ∷ ts) up at = ap (λ (b : Bool). cond b ts (behind place ts)) (eq-eqb t.place place (at.has t))
by_index place least (suc i) (t ∷ ts) up at =
    ap (λ (b : Bool). cond b ts (behind place ts))
    (ne_eqb t.place place (λ e. absurd (omega (arith, e, at.has t, from_least (t.place + 1) ts i t up.1 (omega (arith, at.within))))))
    ∙ by_index place (t.place + 1) i ts up.1 (record { within = omega (arith, at.within); has = at.has })

pub behind_at : (place i : ℕ) (ts : List Turn) → AscendFrom 0 ts → IsTurnAt place i ts → behind place ts ≡ drop (i + 1) ts
behind_at place i ts up at = by_index place 0 i ts up at ∙ ap (λ (n : ℕ). drop n ts) next
  where
    next : suc i ≡ i + 1
    next = omega arith

pub ready_none : (i : ℕ) (ts : List Turn) → length ts ≤ i → ready (drop i ts) ≡ None
ready_none zero [] le = refl
ready_none (suc i) [] le = refl
ready_none zero (t ∷ ts) le = absurd (omega (arith, le))
ready_none (suc i) (t ∷ ts) le = ready_none i ts (omega (arith, le))

-- where nothing is found at an index
pub none_got : (i count : ℕ) → (i + 1 < count → false ≡ true) → count ≤ i + 1
none_got i count none = elim (cases_lt (i + 1) count) [ inl lt ↦ absurd (false≢true (none lt)) | inr le ↦ omega (arith, le) ]

pub ready_at : (i : ℕ) (ts : List Turn) (x : Turn) → i < length ts → x ≡ get_or ts i x → ready (drop i ts) ≡ cond x.done (Some x.place) None
ready_at i [] x lt is = absurd (omega (arith, lt))
ready_at zero (t ∷ ts) x lt is = ap (λ (y : Turn). cond y.done (Some y.place) None) (sym is)
ready_at (suc i) (t ∷ ts) x lt is = ready_at i ts x (omega (arith, lt)) is

place_stays : (b : Bool) (t : Turn) → (cond b (record t { done = true }) t).place ≡ t.place
place_stays true t = refl
place_stays false t = refl

pub ascend_done : (place least : ℕ) (ts : List Turn) → AscendFrom least ts → AscendFrom least (done_at place ts)
ascend_done place least [] up = tt
ascend_done place least (t ∷ ts) up =
    let same : (cond (t.place == place) (record t { done = true }) t).place ≡ t.place = place_stays (t.place == place) t in
    (omega (arith, same, up.0), subst (λ (p : ℕ). AscendFrom (p + 1) (done_at place ts)) (sym same) (ascend_done place (t.place + 1) ts up.1))

-- ---- a turn behind all, and the first one taken out

pub ascend_push : (least place : ℕ) (done : Bool) (ts : List Turn) → AscendFrom least ts → least ≤ place → IsAboveTurns place ts
    → AscendFrom least (ts ++ record { place = place; done = done } ∷ [])
ascend_push least place done [] up le above = (le, tt)
ascend_push least place done (t ∷ ts) up le above = (up.0, ascend_push (t.place + 1) place done ts up.1 (omega (arith, above.0)) above.1)

lower_least : (least lower : ℕ) (ts : List Turn) → AscendFrom least ts → lower ≤ least → AscendFrom lower ts
lower_least least lower [] up le = tt
lower_least least lower (t ∷ ts) up le = (omega (arith, le, up.0), up.1)

ascend_rest : (t : Turn) (ts : List Turn) → AscendFrom 0 (t ∷ ts) → AscendFrom 0 ts
ascend_rest t ts up = lower_least (t.place + 1) 0 ts up.1 (omega arith)

pub ascend_drop : (ts : List Turn) → AscendFrom 0 ts → AscendFrom 0 (drop 1 ts)
ascend_drop [] up = tt
ascend_drop (t ∷ ts) up = ascend_rest t ts up

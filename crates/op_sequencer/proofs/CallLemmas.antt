-- What calls on a sequencer pop.
use Rattle.std.proofs.Common.{◌≡◌, ◌⊎◌, inl, inr, ℕ, ◌==◌, ◌&&◌, ◌||◌, Bool, true, false, cond, List, [], ◌∷◌, ◌++◌, Some, None, refl, sym, ap, ◌∙◌, append_assoc, append-nil}
use Rattle.std.specs.List.{AllByRecursion}
use Rattle.std.specs.Option.{option_to_list}
use Rattle.std.proofs.lemmas.List.{map-append}
use Rattle.std.proofs.lemmas.Bool.{or_cases, or_left, or_right, and_parts, and_from, eq-eqb, eqb-true, false≢true, cases_Bool}
use Rattle.op_sequencer.specs.declared.sequencer.Turn.{Turn}
use Rattle.op_sequencer.specs.Turns.{done_at, ready, without_ready}
use Rattle.op_sequencer.specs.Calls.{TurnCall, push, io_done, pop_ready, turns_after, left, pushed, pushed_by, popped, popped_by, says_done, one_says_done, turn_places, PopsInOrder}

-- ---- in order

places_done : (place : ℕ) (ts : List Turn) → turn_places (done_at place ts) ≡ turn_places ts
places_done place [] = refl
places_done place (t ∷ ts) = elim (cases_Bool (t.place == place)) [
  | inl here ↦ ap (λ (b : Bool). (cond b (record t { done = true }) t).place ∷ turn_places (done_at place ts)) here ∙ ap (λ (l : List ℕ). t.place ∷ l) (places_done place ts)
  | inr other ↦ ap (λ (b : Bool). (cond b (record t { done = true }) t).place ∷ turn_places (done_at place ts)) other ∙ ap (λ (l : List ℕ). t.place ∷ l) (places_done place ts)
]

places_popped : (ts : List Turn) → turn_places ts ≡ option_to_list (ready ts) ++ turn_places (without_ready ts)
places_popped [] = refl
places_popped (t ∷ ts) = by_done t.done
  where
    by_done : (b : Bool) → t.place ∷ turn_places ts ≡ option_to_list (cond b (Some t.place) None) ++ turn_places (cond b ts (t ∷ ts))
    by_done true = refl
    by_done false = refl

-- what waits and what a call pushes is what it pops and what waits then
one_call : (c : TurnCall) (ts : List Turn) → turn_places ts ++ pushed_by c ≡ popped_by c ts ++ turn_places (turns_after c ts)
one_call (push place done) ts = sym (map-append (λ (t : Turn). t.place) ts (record { place = place; done = done } ∷ []))
one_call (io_done place) ts = append-nil (turn_places ts) ∙ sym (places_done place ts)
one_call pop_ready ts = append-nil (turn_places ts) ∙ places_popped ts

pub in_order : (cs : List TurnCall) (ts : List Turn) → turn_places ts ++ pushed cs ≡ popped cs ts ++ turn_places (left cs ts)
in_order [] ts = append-nil (turn_places ts)
in_order (c ∷ cs) ts =
    sym (append_assoc (turn_places ts) (pushed_by c) (pushed cs))
    ∙ ap (λ (l : List ℕ). l ++ pushed cs) (one_call c ts)
    ∙ append_assoc (popped_by c ts) (turn_places (turns_after c ts)) (pushed cs)
    ∙ ap (λ (l : List ℕ). popped_by c ts ++ l) (in_order cs (turns_after c ts))
    ∙ sym (append_assoc (popped_by c ts) (popped cs (turns_after c ts)) (turn_places (left cs (turns_after c ts))))

-- ---- done

-- a turn that is done has this place
has_done : ℕ → List Turn → Bool
has_done place [] = false
has_done place (t ∷ ts) = ((t.place == place) && t.done) || has_done place ts

first_done : (place : ℕ) (t : Turn) (ts : List Turn) → t.place ≡ place → t.done ≡ true → has_done place (t ∷ ts) ≡ true
unfolding has_done
first_done place t ts here done = or_left ((t.place == place) && t.done) (has_done place ts) (and_from (t.place == place) t.done (eq-eqb t.place place here) done)

done_append : (place : ℕ) (ts us : List Turn) → has_done place (ts ++ us) ≡ true → (has_done place ts ≡ true) ⊎ (has_done place us ≡ true)
unfolding has_done
done_append place [] us h = inr h
done_append place (t ∷ ts) us h = elim (or_cases ((t.place == place) && t.done) (has_done place (ts ++ us)) h) [
  | inl here ↦ inl (or_left ((t.place == place) && t.done) (has_done place ts) here)
  | inr later ↦ elim (done_append place ts us later) [
    | inl there ↦ inl (or_right ((t.place == place) && t.done) (has_done place ts) there)
    | inr behind ↦ inr behind
  ]
]

pushed_done : (place : ℕ) (t : Turn) → has_done place (t ∷ []) ≡ true → ((t.place == place) && t.done) ≡ true
unfolding has_done
pushed_done place t h = elim (or_cases ((t.place == place) && t.done) false h) [ inl here ↦ here | inr none ↦ absurd (false≢true none) ]

changed_done : (place q : ℕ) (b : Bool) (t : Turn) → (t.place == q) ≡ b → (((cond b (record t { done = true }) t).place == place) && (cond b (record t { done = true }) t).done) ≡ true
    → (((t.place == place) && t.done) ≡ true) ⊎ ((q == place) ≡ true)
changed_done place q true t is h =
    let at : (t.place == place) ≡ true = (and_parts (t.place == place) true h).0 in
    inr (eq-eqb q place (sym (eqb-true t.place q is) ∙ eqb-true t.place place at))
changed_done place q false t is h = inl h

done_by_report : (place q : ℕ) (ts : List Turn) → has_done place (done_at q ts) ≡ true → (has_done place ts ≡ true) ⊎ ((q == place) ≡ true)
unfolding has_done
done_by_report place q [] h = inl h
done_by_report place q (t ∷ ts) h =
    elim (or_cases (((cond (t.place == q) (record t { done = true }) t).place == place) && (cond (t.place == q) (record t { done = true }) t).done) (has_done place (done_at q ts)) h) [
      | inl here ↦ elim (changed_done place q (t.place == q) t refl here) [
        | inl was ↦ inl (or_left ((t.place == place) && t.done) (has_done place ts) was)
        | inr now ↦ inr now
      ]
      | inr later ↦ elim (done_by_report place q ts later) [
        | inl was ↦ inl (or_right ((t.place == place) && t.done) (has_done place ts) was)
        | inr now ↦ inr now
      ]
    ]

done_before_pop : (place : ℕ) (ts : List Turn) → has_done place (without_ready ts) ≡ true → has_done place ts ≡ true
unfolding has_done
done_before_pop place [] h = h
done_before_pop place (t ∷ ts) h = by_done t.done h
  where
    by_done : (b : Bool) → has_done place (cond b ts (t ∷ ts)) ≡ true → has_done place (t ∷ ts) ≡ true
    by_done true later = or_right ((t.place == place) && t.done) (has_done place ts) later
    by_done false same = same

-- what is done after a call was done before, or the call says so
came_from : (place : ℕ) (c : TurnCall) (ts : List Turn) → has_done place (turns_after c ts) ≡ true → (has_done place ts ≡ true) ⊎ (says_done place c ≡ true)
came_from place (push p done) ts h = elim (done_append place ts (record { place = p; done = done } ∷ []) h) [
  | inl was ↦ inl was
  | inr now ↦ inr (pushed_done place (record { place = p; done = done }) now)
]
came_from place (io_done p) ts h = done_by_report place p ts h
came_from place pop_ready ts h = inl (done_before_pop place ts h)

-- the place is done among the turns, or a call says so
abbrev IsSaid : List Turn → List TurnCall → ℕ → Type 0
IsSaid ts cs place = (has_done place ts ≡ true) ⊎ (one_says_done place cs ≡ true)

said_before : (place : ℕ) (c : TurnCall) (cs : List TurnCall) (ts : List Turn) → IsSaid (turns_after c ts) cs place → IsSaid ts (c ∷ cs) place
said_before place c cs ts said = elim said [
  | inl now ↦ elim (came_from place c ts now) [
    | inl was ↦ inl was
    | inr says ↦ inr (or_left (says_done place c) (one_says_done place cs) says)
  ]
  | inr later ↦ inr (or_right (says_done place c) (one_says_done place cs) later)
]

said_all_before : (c : TurnCall) (cs : List TurnCall) (ts : List Turn) (ps : List ℕ) → AllByRecursion (IsSaid (turns_after c ts) cs) ps → AllByRecursion (IsSaid ts (c ∷ cs)) ps
said_all_before c cs ts [] all = tt
said_all_before c cs ts (p ∷ ps) all = (said_before p c cs ts all.0, said_all_before c cs ts ps all.1)

popped_is_said : (c : TurnCall) (cs : List TurnCall) (ts : List Turn) (ps : List ℕ) → AllByRecursion (IsSaid ts (c ∷ cs)) ps
    → AllByRecursion (IsSaid ts (c ∷ cs)) (popped_by c ts ++ ps)
popped_is_said (push p done) cs ts ps all = all
popped_is_said (io_done p) cs ts ps all = all
popped_is_said pop_ready cs [] ps all = all
popped_is_said pop_ready cs (t ∷ ts) ps all = by_done t.done refl
  where
    by_done : (b : Bool) → t.done ≡ b → AllByRecursion (IsSaid (t ∷ ts) (pop_ready ∷ cs)) (option_to_list (cond b (Some t.place) None) ++ ps)
    by_done true done = (inl (first_done t.place t ts refl done), all)
    by_done false waits = all

all_said : (cs : List TurnCall) (ts : List Turn) → AllByRecursion (IsSaid ts cs) (popped cs ts)
all_said [] ts = tt
all_said (c ∷ cs) ts = popped_is_said c cs ts (popped cs (turns_after c ts)) (said_all_before c cs ts (popped cs (turns_after c ts)) (all_said cs (turns_after c ts)))

said_by_calls : (cs : List TurnCall) (ps : List ℕ) → AllByRecursion (IsSaid [] cs) ps → AllByRecursion (λ p. one_says_done p cs ≡ true) ps
unfolding has_done
said_by_calls cs [] all = tt
said_by_calls cs (p ∷ ps) all = (elim all.0 [ inl none ↦ absurd (false≢true none) | inr says ↦ says ], said_by_calls cs ps all.1)

pub pops_are : (cs : List TurnCall) → PopsInOrder cs
pops_are cs = record { in_order = in_order cs []; all_done = said_by_calls cs (popped cs []) (all_said cs []) }

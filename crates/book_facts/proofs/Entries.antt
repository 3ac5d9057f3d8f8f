-- One more entry of a book.
use Rattle.std.proofs.Common.{◌≡◌, ℕ, zero, suc, ◌+◌, ◌<◌, ◌≤◌, Bool, true, false, cond, List, [], ◌∷◌, ◌++◌, length, map, filter, Option}
use Rattle.std.proofs.Common.{Some, None, refl, sym, ap, subst, ◌∙◌, append-nil, arith}
use Rattle.run_facts.proofs.Common.{AllByRecursion, cons_option, Entry, Commit, Objects, Change, replay, accepted_change, accepted, change_at, committed, is_on, committed_places}
use Rattle.std.specs.Prelude.{slice_get, option_and_then, is_some, IsSome}
use Rattle.std.proofs.lemmas.List.Elements.{filter_map-append}
use Rattle.object_model.specs.Prelude.{IsAnswered, AnswersFrom, places_from, entry_places, AreCountsWithin}
use Rattle.read_facts.specs.Prelude.{IsAnsweredAlike, AnswersAlikeFrom}

-- ---- answers

-- the transaction of one entry
abbrev pub own_change : Entry → Option Change
own_change e = accepted_change e.command e.answer

pub accepted_push : (es : List Entry) (e : Entry) → accepted (es ++ e ∷ []) ≡ accepted es ++ accepted (e ∷ [])
accepted_push es e = filter_map-append own_change es (e ∷ [])

-- one that isn't accepted leaves the accepted transactions
pub none_accepted : (es : List Entry) (e : Entry) → own_change e ≡ None → accepted (es ++ e ∷ []) ≡ accepted es
none_accepted es e is =
    accepted_push es e ∙ ap (λ (o : Option Change). accepted es ++ cons_option o []) is ∙ append-nil (accepted es)

replay_first : (objects : Objects) (o : Option Change) (rest : List Change)
    → replay (replay objects (cons_option o [])) rest ≡ replay objects (cons_option o rest)
replay_first objects None rest = refl
replay_first objects (Some change) rest = refl

pub answers_push : (objects : Objects) (es : List Entry) (e : Entry) → AnswersFrom objects es → IsAnswered (replay objects (accepted es)) e
    → AnswersFrom objects (es ++ e ∷ [])
answers_push objects [] e are is = (is, tt)
answers_push objects (x ∷ es) e are is = (
  are.0,
  answers_push (replay objects (accepted (x ∷ []))) es e are.1
      (subst (λ (o : Objects). IsAnswered o e) (sym (replay_first objects (own_change x) (accepted es))) is),
)

-- the same, but for the bytes that reads gave
pub alike_push : (objects : Objects) (es : List Entry) (e : Entry) → AnswersAlikeFrom objects es → IsAnsweredAlike (replay objects (accepted es)) e
    → AnswersAlikeFrom objects (es ++ e ∷ [])
alike_push objects [] e are is = (is, tt)
alike_push objects (x ∷ es) e are is = (
  are.0,
  alike_push (replay objects (accepted (x ∷ []))) es e are.1
      (subst (λ (o : Objects). IsAnsweredAlike o e) (sym (replay_first objects (own_change x) (accepted es))) is),
)

-- and so is the last of them
pub alike_last : (objects : Objects) (es : List Entry) (e : Entry) → AnswersAlikeFrom objects (es ++ e ∷ [])
    → IsAnsweredAlike (replay objects (accepted es)) e
alike_last objects [] e are = are.0
alike_last objects (x ∷ es) e are =
    subst (λ (o : Objects). IsAnsweredAlike o e) (replay_first objects (own_change x) (accepted es))
    (alike_last (replay objects (accepted (x ∷ []))) es e are.1)

-- ---- counts of acknowledgements

pub counts_push : (least most : ℕ) (es : List Entry) (e : Entry) → least ≤ most → AreCountsWithin least most es → e.acks ≡ most
    → AreCountsWithin least most (es ++ e ∷ [])
counts_push least most [] e le are is = (omega (arith, le, is), omega (arith, is), tt)
counts_push least most (x ∷ es) e le are is = (are.0, are.1, counts_push x.acks most es e are.1 are.2 is)

pub counts_more : (least most more : ℕ) (es : List Entry) → most ≤ more → AreCountsWithin least most es → AreCountsWithin least more es
counts_more least most more [] le are = tt
counts_more least most more (x ∷ es) le are = (are.0, omega (arith, le, are.1), counts_more x.acks most more es le are.2)

-- ---- the transaction at a place

pub get_push : {A : Type 0} (xs : List A) (y x : A) (i : ℕ) → slice_get xs i ≡ Some x → slice_get (xs ++ y ∷ []) i ≡ Some x
get_push [] y x i is = absurd cc
get_push (z ∷ xs) y x zero is = is
get_push (z ∷ xs) y x (suc i) is = get_push xs y x i is

pub get_last : {A : Type 0} (xs : List A) (y : A) → slice_get (xs ++ y ∷ []) (length xs) ≡ Some y
get_last [] y = refl
get_last (x ∷ xs) y = get_last xs y

some_here : {A : Type 0} (o : Option A) → is_some o ≡ true → (x : A) × (o ≡ Some x)
some_here None is = absurd cc
some_here (Some x) is = (x, refl)

found_below : {A : Type 0} (xs : List A) (i : ℕ) (x : A) → slice_get xs i ≡ Some x → i < length xs
found_below [] i x is = absurd cc
found_below (y ∷ xs) zero x is = omega arith
found_below (y ∷ xs) (suc i) x is = let more = found_below xs i x is in omega (arith, more)

abbrev of_entry : Option Entry → Option Change
of_entry o = option_and_then own_change o

entry_here : (o : Option Entry) (change : Change) → of_entry o ≡ Some change → is_some o ≡ true
entry_here None change is = absurd cc
entry_here (Some e) change is = refl

pub change_below : (es : List Entry) (place : ℕ) (change : Change) → change_at es place ≡ Some change → place < length es
change_below es place change is =
    let found = some_here (slice_get es place) (entry_here (slice_get es place) change is) in
    found_below es place found.0 found.1

pub change_push : (es : List Entry) (e : Entry) (place : ℕ) (change : Change) → change_at es place ≡ Some change → change_at (es ++ e ∷ []) place ≡ Some change
change_push es e place change is =
    let found = some_here (slice_get es place) (entry_here (slice_get es place) change is) in
    ap of_entry (get_push es e found.0 place found.1) ∙ sym (ap of_entry found.1) ∙ is

pub change_kept : (es : List Entry) (e : Entry) (place : ℕ) → IsSome (change_at es place) → change_at (es ++ e ∷ []) place ≡ change_at es place
change_kept es e place is = let found = some_here (change_at es place) is in change_push es e place found.0 found.1 ∙ sym found.1

pub change_last : (es : List Entry) (e : Entry) → change_at (es ++ e ∷ []) (length es) ≡ own_change e
change_last es e = ap of_entry (get_last es e)

-- ---- the commits' transactions

abbrev pub AreOfEntries : List Entry → List Commit → Type 0
AreOfEntries es commits = AllByRecursion (λ c. IsSome (change_at es c.place)) commits

pub of_entries_push : (es : List Entry) (e : Entry) (commits : List Commit) → AreOfEntries es commits → AreOfEntries (es ++ e ∷ []) commits
of_entries_push es e [] are = tt
of_entries_push es e (c ∷ commits) are = (ap is_some (change_kept es e c.place are.0) ∙ are.0, of_entries_push es e commits are.1)

pub committed_kept : (es : List Entry) (e : Entry) (commits : List Commit) → AreOfEntries es commits → committed (es ++ e ∷ []) commits ≡ committed es commits
committed_kept es e [] are = refl
committed_kept es e (c ∷ commits) are =
    ap (λ (o : Option Change). cons_option o (committed (es ++ e ∷ []) commits)) (change_kept es e c.place are.0)
    ∙ ap (λ (l : List Change). cons_option (change_at es c.place) l) (committed_kept es e commits are.1)

-- the commits on a collection
abbrev on_after : List ℕ → List Entry → List Commit → List Commit
on_after coll es commits = filter (λ (d : Commit). is_on coll (change_at es d.place)) commits

first_place : (c : Commit) (b : Bool) (xs ys : List Commit) → map (λ (d : Commit). d.place) xs ≡ map (λ (d : Commit). d.place) ys
    → map (λ (d : Commit). d.place) (cond b (c ∷ xs) xs) ≡ map (λ (d : Commit). d.place) (cond b (c ∷ ys) ys)
first_place c true xs ys same = ap (λ (l : List ℕ). c.place ∷ l) same
first_place c false xs ys same = same

pub places_kept : (coll : List ℕ) (es : List Entry) (e : Entry) (commits : List Commit) → AreOfEntries es commits
    → committed_places coll (es ++ e ∷ []) commits ≡ committed_places coll es commits
places_kept coll es e [] are = refl
places_kept coll es e (c ∷ commits) are =
    let here : is_on coll (change_at (es ++ e ∷ []) c.place) ≡ is_on coll (change_at es c.place) = ap (is_on coll) (change_kept es e c.place are.0) in
    ap (λ (b : Bool). map (λ (d : Commit). d.place) (cond b (c ∷ on_after coll (es ++ e ∷ []) commits) (on_after coll (es ++ e ∷ []) commits))) here
    ∙ first_place c (is_on coll (change_at es c.place)) (on_after coll (es ++ e ∷ []) commits) (on_after coll es commits) (places_kept coll es e commits are.1)

-- ---- the places of a collection

-- the place of one more entry, if it is accepted and on the collection
abbrev pub place_if : Bool → ℕ → List ℕ
place_if on place = cond on (place ∷ []) []

-- the places from one on, by the test of the first entry
abbrev placed_first : Bool → ℕ → List ℕ → List ℕ
placed_first on i rest = cond on (i ∷ rest) rest

first_of_more : (b : Bool) (i : ℕ) (longer shorter last : List ℕ) → longer ≡ shorter ++ last → placed_first b i longer ≡ placed_first b i shorter ++ last
first_of_more true i longer shorter last same = ap (λ (l : List ℕ). i ∷ l) same
first_of_more false i longer shorter last same = same

places_from_push : (coll : List ℕ) (i : ℕ) (es : List Entry) (e : Entry)
    → places_from coll i (es ++ e ∷ []) ≡ places_from coll i es ++ place_if (is_on coll (own_change e)) (i + length es)
places_from_push coll i [] e = ap (place_if (is_on coll (own_change e))) (omega arith)
places_from_push coll i (x ∷ es) e =
    let last : ℕ → List ℕ = λ n. place_if (is_on coll (own_change e)) n in
    let behind : i + 1 + length es ≡ i + length (x ∷ es) = omega arith in
    first_of_more (is_on coll (own_change x)) i (places_from coll (i + 1) (es ++ e ∷ [])) (places_from coll (i + 1) es) (last (i + length (x ∷ es)))
    (places_from_push coll (i + 1) es e ∙ ap (λ (n : ℕ). places_from coll (i + 1) es ++ last n) behind)

pub places_push : (coll : List ℕ) (es : List Entry) (e : Entry)
    → entry_places coll (es ++ e ∷ []) ≡ entry_places coll es ++ place_if (is_on coll (own_change e)) (length es)
places_push coll es e = places_from_push coll 0 es e ∙ ap (λ (n : ℕ). entry_places coll es ++ place_if (is_on coll (own_change e)) n) (omega arith)

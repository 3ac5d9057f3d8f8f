-- How the queues of collections go on.
use Rattle.std.proofs.Common.{◌≡◌, ℕ, ◌<◌, Bool, true, false, cond, List, [], ◌∷◌, ◌++◌, length, Option, Some, None}
use Rattle.std.proofs.Common.{refl, sym, ap, subst, ◌∙◌, append-nil, append_assoc}
use Rattle.run_facts.proofs.Common.{AllByRecursion, IsDistinct, Entry, Commit, Change, names_of, is_named, change_at, is_on, committed_places}
use Rattle.std.specs.Prelude.{is_some, IsSome, nat_eq}
use Rattle.std.specs.Cmp.{nat_eq_equiv}
use Rattle.std.proofs.lemmas.List.{map-append}
use Rattle.std.proofs.lemmas.List.Elements.{filter-append}
use Rattle.std.proofs.lemmas.Map.Keys.{IsDistinct-push, IsDistinct-IsPermutation}
use Rattle.std.specs.List.Sorted.{IsPermutation}
use Rattle.std.proofs.lemmas.List.Sorted.{IsPermutation-append_right, IsPermutation-middle}
use Rattle.object_model.specs.declared.book.Book.{Book}
use Rattle.object_model.specs.Prelude.{entry_places, IsPrefixOf}
use Rattle.store_steps.specs.Prelude.{Intent, names_in, is_in}
use Rattle.book_facts.specs.Prelude.{places, commit_places, intents_on, IsOfEntry, AreQueued}
use Rattle.book_facts.proofs.Entries.{own_change, change_below, change_push, places_kept, place_if, places_push}
use Rattle.book_facts.proofs.Commits.{all_then, AreAtPlaces, at_places, places_on, places_by_places, distinct_front, none_above}
use Rattle.flight_facts.proofs.Prelude.{all_join}

-- ---- intents of entries

some_is : {A : Type 0} (o : Option A) → IsSome o → (x : A) × (o ≡ Some x)
some_is None is = absurd cc
some_is (Some x) is = (x, refl)

pub entry_push : (es : List Entry) (e : Entry) (xs : List Intent) → AllByRecursion (IsOfEntry es) xs → AllByRecursion (IsOfEntry (es ++ e ∷ [])) xs
entry_push es e xs all =
    all_then (IsOfEntry es) (IsOfEntry (es ++ e ∷ [])) xs
    (λ x is. record { change = is.change; accepted = change_push es e x.place is.change is.accepted; same_names = is.same_names }) all

below_all : (es : List Entry) (ps : List ℕ) → AreAtPlaces es ps → AllByRecursion (λ p. p < length es) ps
below_all es ps all =
    all_then (λ p. IsSome (change_at es p)) (λ p. p < length es) ps (λ p is. let found = some_is (change_at es p) is in change_below es p found.0 found.1) all

intent_places : (es : List Entry) (xs : List Intent) → AllByRecursion (IsOfEntry es) xs → AreAtPlaces es (places xs)
intent_places es [] all = tt
intent_places es (x ∷ xs) all = (ap is_some all.0.accepted, intent_places es xs all.1)

-- the place of one intent, if it is on the collection
on_one : (coll : List ℕ) (x : Intent) → places (intents_on coll (x ∷ [])) ≡ place_if (is_named coll (names_in x)) x.place
on_one coll x = by_test (is_named coll (names_in x))
  where
    by_test : (b : Bool) → places (cond b (x ∷ []) []) ≡ place_if b x.place
    by_test true = refl
    by_test false = refl

on_push : (coll : List ℕ) (xs : List Intent) (x : Intent)
    → places (intents_on coll (xs ++ x ∷ [])) ≡ places (intents_on coll xs) ++ place_if (is_named coll (names_in x)) x.place
on_push coll xs x =
    ap places (filter-append (is_in coll) xs (x ∷ []))
    ∙ map-append (λ y. y.place) (intents_on coll xs) (intents_on coll (x ∷ []))
    ∙ ap (λ (l : List ℕ). places (intents_on coll xs) ++ l) (on_one coll x)

-- ---- one more entry

module _ (es : List Entry) (e : Entry) (commits : List Commit) (waiting : List Intent)
    (of_accepted : AllByRecursion (λ c. IsSome (change_at es c.place)) commits) (queued : AreQueued (record { entries = es; commits = commits }) waiting) where
  -- that isn't accepted
  pub queued_noted : own_change e ≡ None → AreQueued (record { entries = es ++ e ∷ []; commits = commits }) waiting
  queued_noted is = record {
    once = queued.once;
    in_order = λ coll. places_push coll es e ∙ ap (λ (o : Option Change). entry_places coll es ++ place_if (is_on coll o) (length es)) is
        ∙ append-nil (entry_places coll es) ∙ queued.in_order coll
        ∙ ap (λ (l : List ℕ). l ++ places (intents_on coll waiting)) (sym (places_kept coll es e commits of_accepted));
  }

  -- that is, with its intent
  pub queued_accepted : (x : Intent) (change : Change) → own_change e ≡ Some change → names_of change ≡ names_in x → x.place ≡ length es
      → AllByRecursion (IsOfEntry es) waiting → AreQueued (record { entries = es ++ e ∷ []; commits = commits }) (waiting ++ x ∷ [])
  queued_accepted x change is same_names here all = record { once = once; in_order = in_order }
    where
      apart : AllByRecursion (λ p. p < length es) (commit_places commits ++ places waiting)
      apart = all_join (λ p. p < length es) (commit_places commits) (places waiting)
          (below_all es (commit_places commits) (at_places es commits of_accepted)) (below_all es (places waiting) (intent_places es waiting all))

      one_more : commit_places commits ++ places (waiting ++ x ∷ []) ≡ (commit_places commits ++ places waiting) ++ length es ∷ []
      one_more = ap (λ (l : List ℕ). commit_places commits ++ l) (map-append (λ y. y.place) waiting (x ∷ []))
          ∙ sym (append_assoc (commit_places commits) (places waiting) (x.place ∷ []))
          ∙ ap (λ (n : ℕ). (commit_places commits ++ places waiting) ++ n ∷ []) here

      once : IsDistinct nat_eq (commit_places commits ++ places (waiting ++ x ∷ []))
      once = subst (IsDistinct nat_eq) (sym one_more)
          (IsDistinct-push nat_eq_equiv (commit_places commits ++ places waiting) (length es) queued.once
          (none_above (length es) (commit_places commits ++ places waiting) apart))

      in_order : (coll : List ℕ) → entry_places coll (es ++ e ∷ []) ≡ committed_places coll (es ++ e ∷ []) commits ++ places (intents_on coll (waiting ++ x ∷ []))
      in_order coll =
          places_push coll es e
          ∙ ap (λ (o : Option Change). entry_places coll es ++ place_if (is_on coll o) (length es)) is
          ∙ ap (λ (l : List ℕ). l ++ place_if (is_named coll (names_of change)) (length es)) (queued.in_order coll)
          ∙ append_assoc (committed_places coll es commits) (places (intents_on coll waiting)) (place_if (is_named coll (names_of change)) (length es))
          ∙ ap (λ (names : List (List ℕ)). committed_places coll es commits ++ (places (intents_on coll waiting) ++ place_if (is_named coll names) (length es)))
          same_names
          ∙ ap (λ (n : ℕ). committed_places coll es commits ++ (places (intents_on coll waiting) ++ place_if (is_named coll (names_in x)) n)) (sym here)
          ∙ ap (λ (l : List ℕ). committed_places coll es commits ++ l) (sym (on_push coll waiting x))
          ∙ ap (λ (l : List ℕ). l ++ places (intents_on coll (waiting ++ x ∷ []))) (sym (places_kept coll es e commits of_accepted))

-- ---- one intent is taken into a batch, the first of its collections

queued_on : (coll : List ℕ) (front : List Intent) (x : Intent) (back : List Intent) → (is_in coll x ≡ true → intents_on coll front ≡ [])
    → places (intents_on coll (front ++ x ∷ back)) ≡ place_if (is_in coll x) x.place ++ places (intents_on coll (front ++ back))
queued_on coll front x back first = ap places (filter-append (is_in coll) front (x ∷ back)) ∙ by_test (is_in coll x) refl
    ∙ ap (λ (xs : List Intent). place_if (is_in coll x) x.place ++ places xs) (sym (filter-append (is_in coll) front back))
  where
    by_test : (b : Bool) → is_in coll x ≡ b → places (intents_on coll front ++ cond b (x ∷ intents_on coll back) (intents_on coll back))
        ≡ place_if b x.place ++ places (intents_on coll front ++ intents_on coll back)
    by_test true on = ap (λ (xs : List Intent). places (xs ++ x ∷ intents_on coll back)) (first on)
        ∙ ap (λ (xs : List Intent). x.place ∷ places (xs ++ intents_on coll back)) (sym (first on))
    by_test false on = refl

pub queued_taken : (es : List Entry) (commits : List Commit) (c : Commit) (front : List Intent) (x : Intent) (back : List Intent) → c.place ≡ x.place
    → IsOfEntry es x → ((coll : List ℕ) → is_in coll x ≡ true → intents_on coll front ≡ [])
    → AreQueued (record { entries = es; commits = commits }) (front ++ x ∷ back) → AreQueued (record { entries = es; commits = commits ++ c ∷ [] }) (front ++ back)
queued_taken es commits c front x back same is first queued = record { once = once; in_order = in_order }
  where
    one_more : commit_places (commits ++ c ∷ []) ≡ commit_places commits ++ x.place ∷ []
    one_more = map-append (λ d. d.place) commits (c ∷ []) ∙ ap (λ (n : ℕ). commit_places commits ++ n ∷ []) same

    moved : IsPermutation (commit_places commits ++ (places front ++ x.place ∷ places back)) (commit_places commits ++ x.place ∷ (places front ++ places back))
    moved = IsPermutation-append_right (commit_places commits) (places front ++ x.place ∷ places back) (x.place ∷ (places front ++ places back))
        (IsPermutation-middle (places front) x.place (places back))

    once : IsDistinct nat_eq (commit_places (commits ++ c ∷ []) ++ places (front ++ back))
    once = subst (IsDistinct nat_eq) (sym (ap (λ (l : List ℕ). commit_places (commits ++ c ∷ []) ++ l) (map-append (λ y. y.place) front back)
        ∙ ap (λ (l : List ℕ). l ++ (places front ++ places back)) one_more ∙ append_assoc (commit_places commits) (x.place ∷ []) (places front ++ places back)))
        (IsDistinct-IsPermutation nat_eq nat_eq_equiv.symm (commit_places commits ++ (places front ++ x.place ∷ places back))
        (commit_places commits ++ x.place ∷ (places front ++ places back)) moved
        (subst (λ (l : List ℕ). IsDistinct nat_eq (commit_places commits ++ l)) (map-append (λ y. y.place) front (x ∷ back)) queued.once))

    on_it : (coll : List ℕ) → is_on coll (change_at es x.place) ≡ is_in coll x
    on_it coll = ap (is_on coll) is.accepted ∙ ap (is_named coll) is.same_names

    in_order : (coll : List ℕ) → entry_places coll es ≡ committed_places coll es (commits ++ c ∷ []) ++ places (intents_on coll (front ++ back))
    in_order coll =
        queued.in_order coll
        ∙ ap (λ (l : List ℕ). committed_places coll es commits ++ l) (queued_on coll front x back (first coll)
        ∙ ap (λ (b : Bool). place_if b x.place ++ places (intents_on coll (front ++ back))) (sym (on_it coll)))
        ∙ sym (append_assoc (committed_places coll es commits) (places_on coll es (x.place ∷ [])) (places (intents_on coll (front ++ back))))
        ∙ ap (λ (l : List ℕ). l ++ places (intents_on coll (front ++ back)))
        (ap (λ (l : List ℕ). l ++ places_on coll es (x.place ∷ [])) (places_by_places coll es commits)
        ∙ sym (filter-append (λ p. is_on coll (change_at es p)) (commit_places commits) (x.place ∷ []))
        ∙ ap (places_on coll es) (sym one_more) ∙ sym (places_by_places coll es (commits ++ c ∷ [])))

-- ---- commits of the same places

pub queued_places : (es : List Entry) (commits commits' : List Commit) (waiting : List Intent) → commit_places commits' ≡ commit_places commits
    → AreQueued (record { entries = es; commits = commits }) waiting → AreQueued (record { entries = es; commits = commits' }) waiting
queued_places es commits commits' waiting same queued = record {
  once = subst (λ (l : List ℕ). IsDistinct nat_eq (l ++ places waiting)) (sym same) queued.once;
  in_order = λ coll. queued.in_order coll
      ∙ ap (λ (l : List ℕ). l ++ places (intents_on coll waiting))
      (places_by_places coll es commits ∙ ap (places_on coll es) (sym same) ∙ sym (places_by_places coll es commits'));
}

-- ---- what the book needs

pub once_committed : (book : Book) (waiting : List Intent) → AreQueued book waiting → IsDistinct nat_eq (commit_places book.commits)
once_committed book waiting queued = distinct_front (commit_places book.commits) (places waiting) queued.once

pub committed_in_order : (book : Book) (waiting : List Intent) → AreQueued book waiting → (coll : List ℕ)
    → IsPrefixOf (committed_places coll book.entries book.commits) (entry_places coll book.entries)
committed_in_order book waiting queued coll = (places (intents_on coll waiting), queued.in_order coll)

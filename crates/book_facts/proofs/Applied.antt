-- The transactions of the applied commits, and how far they are all that were accepted.
use Rattle.std.proofs.Common.{◌≡◌, ℕ, ◌+◌, ◌-◌, Bool, true, false, cond, List, [], ◌∷◌, ◌++◌, length, take, drop, Option}
use Rattle.std.proofs.Common.{Some, None, refl, sym, ap, ◌∙◌, append_assoc, length-append, arith}
use Rattle.run_facts.proofs.Common.{AllByRecursion, cons_option, Entry, Commit, Objects, Change, replay, names_of, is_named, accepted, change_at, committed, is_on, committed_places, Context, option_map_or}
use Rattle.std.specs.Prelude.{IsSome, slice_get, option_and_then}
use Rattle.std.proofs.lemmas.List.{take-map, take_all, take-append-drop, length-map, map-append}
use Rattle.std.proofs.lemmas.List.Elements.{filter-append, filter_map-append}
use Rattle.object_model.specs.Prelude.{changes_on, places_from}
use Rattle.object_model.proofs.Names.{have_one_name}
use Rattle.object_model.proofs.Replays.{replay-append, replay-by_collections}
use Rattle.store_steps.specs.Prelude.{Batch, State, committed_batch, applied_count, Intent, intents, is_in, uncommitted}
use Rattle.book_facts.specs.Prelude.{commit_places, AreQueued, IsOfEntry, intents_on, places, KnownOfBook, applied_changes, changes_of}
use Rattle.book_facts.proofs.Entries.{own_change, committed_kept}
use Rattle.book_facts.proofs.Commits.{places_on, places_by_places, changes_at, committed_by_places}
use Rattle.run_facts.proofs.Prelude.{all_right, all_take, intents_both}

-- ---- by places

pub applied_by_places : (es : List Entry) (cs : List Commit) (n : ℕ) → committed es (take n cs) ≡ changes_at es (take n (commit_places cs))
applied_by_places es cs n = committed_by_places es (take n cs) ∙ ap (changes_at es) (sym (take-map (λ (c : Commit). c.place) n cs))

count_places : (cs : List Commit) → length (commit_places cs) ≡ length cs
count_places cs = length-map cs (λ (c : Commit). c.place)

-- ---- the batch is committed

-- the transactions of intents are those at their places
changes_by_places : (es : List Entry) (xs : List Intent) → changes_of es xs ≡ changes_at es (places xs)
changes_by_places es [] = refl
changes_by_places es (x ∷ xs) = ap (λ (l : List Change). cons_option (change_at es x.place) l) (changes_by_places es xs)

pub applied_committed : (opening : Objects) (s : State) (b : Batch) (xs : List Intent) → drop (applied_count s) (commit_places s.book.commits) ≡ places xs
    → replay opening (applied_changes (committed_batch b s)) ≡ replay (replay opening (applied_changes s)) (changes_of s.book.entries xs)
applied_committed opening s b xs last =
    let cs : List Commit = s.book.commits in
    let es : List Entry = s.book.entries in
    let n : ℕ = applied_count s in
    let ps : List ℕ = commit_places cs in
    let all : take (length cs - 0) ps ≡ ps = take_all (length cs - 0) ps (let count = count_places cs in omega (arith, count)) in
    ap (replay opening) (applied_by_places es cs (length cs - 0)
    ∙ ap (changes_at es) (all ∙ sym (take-append-drop n ps) ∙ ap (λ (l : List ℕ). take n ps ++ l) last)
    ∙ filter_map-append (change_at es) (take n ps) (places xs)
    ∙ ap (λ (l : List Change). l ++ changes_at es (places xs)) (sym (applied_by_places es cs n)))
    ∙ replay-append opening (applied_changes s) (changes_at es (places xs))
    ∙ ap (replay (replay opening (applied_changes s))) (sym (changes_by_places es xs))

-- the commits that aren't applied are those of the batch
pub batch_last : (opening : Objects) (s : State) (b : Batch) → s.batch ≡ Some b → KnownOfBook opening s
    → drop (applied_count s) (commit_places s.book.commits) ≡ places (intents b.contexts)
batch_last opening s b is known = known.last_committed ∙ ap (λ (o : Option Batch). places (intents (option_map_or (λ (c : Batch). c.contexts) o []))) is

-- ---- one more entry

pub applied_entry : (es : List Entry) (e : Entry) (cs : List Commit) (n : ℕ) → AllByRecursion (λ c. IsSome (change_at es c.place)) cs
    → committed (es ++ e ∷ []) (take n cs) ≡ committed es (take n cs)
applied_entry es e cs n all = committed_kept es e (take n cs) (all_take (λ c. IsSome (change_at es c.place)) n cs all)

-- ---- a collection's transactions, by their places

on_coll : (coll : List ℕ) (es : List Entry) (ps : List ℕ) → changes_on coll (changes_at es ps) ≡ changes_at es (places_on coll es ps)
on_coll coll es [] = refl
on_coll coll es (p ∷ ps) = by_change (change_at es p) refl (on_coll coll es ps)
  where
    by_change : (o : Option Change) → change_at es p ≡ o → changes_on coll (changes_at es ps) ≡ changes_at es (places_on coll es ps)
        → changes_on coll (cons_option (change_at es p) (changes_at es ps)) ≡ changes_at es
        (cond (is_on coll (change_at es p)) (p ∷ places_on coll es ps) (places_on coll es ps))
    by_change None e more =
        ap (λ (o : Option Change). changes_on coll (cons_option o (changes_at es ps))) e ∙ more
        ∙ sym (ap (λ (o : Option Change). changes_at es (cond (is_on coll o) (p ∷ places_on coll es ps) (places_on coll es ps))) e)
    by_change (Some t) e more =
        ap (λ (o : Option Change). changes_on coll (cons_option o (changes_at es ps))) e
        ∙ by_test (is_named coll (names_of t))
        ∙ sym (ap (λ (o : Option Change). changes_at es (cond (is_on coll o) (p ∷ places_on coll es ps) (places_on coll es ps))) e)
      where
        by_test : (b : Bool) → cond b (t ∷ changes_on coll (changes_at es ps)) (changes_on coll (changes_at es ps))
            ≡ changes_at es (cond b (p ∷ places_on coll es ps) (places_on coll es ps))
        by_test true = ap (λ (l : List Change). t ∷ l) more ∙ sym (ap (λ (o : Option Change). cons_option o (changes_at es (places_on coll es ps))) e)
        by_test false = more

get_behind : {A : Type 0} (front : List A) (x : A) (back : List A) → slice_get (front ++ x ∷ back) (length front) ≡ Some x
get_behind [] x back = refl
get_behind (y ∷ front) x back = get_behind front x back

-- the accepted ones of a collection, behind other entries
accepted_on : (coll : List ℕ) (front back : List Entry)
    → changes_on coll (accepted back) ≡ changes_at (front ++ back) (places_from coll (length front) back)
accepted_on coll front [] = refl
accepted_on coll front (e ∷ back) = by_change (own_change e) refl (more (accepted_on coll (front ++ e ∷ []) back))
  where
    es : List Entry
    es = front ++ e ∷ back

    here : change_at (front ++ e ∷ back) (length front) ≡ own_change e
    here = ap (λ (o : Option Entry). option_and_then own_change o) (get_behind front e back)

    rest : List ℕ
    rest = places_from coll (length front + 1) back

    more : changes_on coll (accepted back) ≡ changes_at ((front ++ e ∷ []) ++ back) (places_from coll (length (front ++ e ∷ [])) back)
        → changes_on coll (accepted back) ≡ changes_at (front ++ e ∷ back) (places_from coll (length front + 1) back)
    more behind = behind
        ∙ ap (λ (l : List Entry). changes_at l (places_from coll (length (front ++ e ∷ [])) back)) (append_assoc front (e ∷ []) back)
        ∙ ap (λ (n : ℕ). changes_at (front ++ e ∷ back) (places_from coll n back)) (let all = length-append front (e ∷ []) in omega (arith, all))

    by_change : (o : Option Change) → own_change e ≡ o → changes_on coll (accepted back) ≡ changes_at es rest
        → changes_on coll (cons_option (own_change e) (accepted back)) ≡ changes_at es
        (cond (is_on coll (own_change e)) (length front ∷ rest) rest)
    by_change None is same =
        ap (λ (o : Option Change). changes_on coll (cons_option o (accepted back))) is ∙ same
        ∙ sym (ap (λ (o : Option Change). changes_at es (cond (is_on coll o) (length front ∷ rest) rest)) is)
    by_change (Some t) is same =
        ap (λ (o : Option Change). changes_on coll (cons_option o (accepted back))) is
        ∙ by_test (is_named coll (names_of t))
        ∙ sym (ap (λ (o : Option Change). changes_at es (cond (is_on coll o) (length front ∷ rest) rest)) is)
      where
        by_test : (b : Bool) → cond b (t ∷ changes_on coll (accepted back)) (changes_on coll (accepted back))
            ≡ changes_at es (cond b (length front ∷ rest) rest)
        by_test true = ap (λ (l : List Change). t ∷ l) same ∙ sym (ap (λ (o : Option Change). cons_option o (changes_at es rest)) (here ∙ is))
        by_test false = same

-- the intents on a collection, by their places
intents_placed : (coll : List ℕ) (es : List Entry) (xs : List Intent) → AllByRecursion (IsOfEntry es) xs
    → places_on coll es (places xs) ≡ places (intents_on coll xs)
intents_placed coll es [] all = refl
intents_placed coll es (x ∷ xs) all =
    ap (λ (b : Bool). cond b (x.place ∷ places_on coll es (places xs)) (places_on coll es (places xs)))
    (ap (is_on coll) (all.0).accepted ∙ ap (is_named coll) (all.0).same_names)
    ∙ by_test (is_in coll x) (intents_placed coll es xs all.1)
  where
    by_test : (b : Bool) → places_on coll es (places xs) ≡ places (intents_on coll xs)
        → cond b (x.place ∷ places_on coll es (places xs)) (places_on coll es (places xs))
        ≡ places (cond b (x ∷ intents_on coll xs) (intents_on coll xs))
    by_test true more = ap (λ (l : List ℕ). x.place ∷ l) more
    by_test false more = more

-- the transactions of the commits, and behind them those that wait, are all that was accepted
all_queued : (opening : Objects) (es : List Entry) (cs : List Commit) (waiting : List Intent) → AllByRecursion (IsOfEntry es) waiting
    → AreQueued (record { entries = es; commits = cs }) waiting
    → replay opening (changes_at es (commit_places cs ++ places waiting)) ≡ replay opening (accepted es)
all_queued opening es cs waiting of_entries queued =
    let ps : List ℕ = commit_places cs ++ places waiting in
    replay-by_collections opening (changes_at es ps) (accepted es) (have_one_name (changes_at es ps)) (have_one_name (accepted es)) (λ coll.
    on_coll coll es ps
    ∙ ap (changes_at es) (filter-append (λ p. is_on coll (change_at es p)) (commit_places cs) (places waiting)
    ∙ ap (λ (l : List ℕ). l ++ places_on coll es (places waiting)) (sym (places_by_places coll es cs))
    ∙ ap (λ (l : List ℕ). committed_places coll es cs ++ l) (intents_placed coll es waiting of_entries)
    ∙ sym (queued.in_order coll))
    ∙ sym (accepted_on coll [] es))

-- so are those of the applied commits, and of all that is under way
pub all_under_way : (opening : Objects) (s : State) → KnownOfBook opening s
    → replay (replay opening (applied_changes s)) (changes_of s.book.entries (intents (uncommitted s))) ≡ replay opening (accepted s.book.entries)
all_under_way opening s known =
    let es : List Entry = s.book.entries in
    let n : ℕ = applied_count s in
    let ps : List ℕ = commit_places s.book.commits in
    let batch : List Context = option_map_or (λ (b : Batch). b.contexts) s.batch [] in
    let xs : List Intent = intents (uncommitted s) in
    let waiting : List Intent = intents s.pending in
    let placed : places xs ≡ drop n ps ++ places waiting =
    ap places (intents_both batch s.pending) ∙ map-append (λ (x : Intent). x.place) (intents batch) waiting
    ∙ ap (λ (l : List ℕ). l ++ places waiting) (sym known.last_committed) in
    sym (replay-append opening (applied_changes s) (changes_of es xs))
    ∙ ap (replay opening) (ap (λ (l : List Change). l ++ changes_of es xs) (applied_by_places es s.book.commits n)
    ∙ ap (λ (l : List Change). changes_at es (take n ps) ++ l) (changes_by_places es xs)
    ∙ sym (filter_map-append (change_at es) (take n ps) (places xs))
    ∙ ap (changes_at es) (ap (λ (l : List ℕ). take n ps ++ l) placed ∙ sym (append_assoc (take n ps) (drop n ps) (places waiting))
    ∙ ap (λ (l : List ℕ). l ++ places waiting) (take-append-drop n ps)))
    ∙ all_queued opening es s.book.commits waiting (all_right (IsOfEntry es) (intents batch) waiting known.contexts) known.queued

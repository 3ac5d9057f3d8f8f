-- How each call keeps what is known of the book.
use Rattle.std.proofs.Common.{◌≡◌, ℕ, ◌+◌, ◌-◌, ◌<◌, ◌≤◌, List, [], ◌∷◌, ◌++◌, length, drop, map}
use Rattle.std.proofs.Common.{Option, None, refl, sym, ap, subst, ◌∙◌, append-nil, append_assoc, length-append, arith}
use Rattle.run_facts.proofs.Common.{IsDistinct, AllByRecursion, option_map_or, Commit, Objects, change_at, Rows, Space, Context, Ascends, Entry}
use Rattle.std.specs.Prelude.{is_some, IsSome, IfSome, nat_eq}
use Rattle.std.proofs.lemmas.List.{map-append, drop-append-le, drop_all, length-map}
use Rattle.object_model.specs.declared.book.Book.{Book}
use Rattle.object_model.specs.Prelude.{AreCountsWithin, acked_count}
use Rattle.read_facts.specs.Prelude.{IsLegalButBytes}
use Rattle.store_image.specs.Prelude.{IsShape}
use Rattle.store_steps.specs.Prelude.{Batch, State, choice, left_by, most_grouped, Found, opened, commit_of, taken_up, acknowledged, finished, committed_batch, applied_count, Intent, intent_of, intents, BookPart, book_part}
use Rattle.run_facts.proofs.Prelude.{IsFirst, ArePicked, picked, part_taken, all_left, all_right, all_join, acknowledged_length, intents_both}
use Rattle.book_facts.specs.Prelude.{commit_places, IsOfEntry, AreCommits, IsBookKnown, KnownOfBook, AreQueued}
use Rattle.book_facts.proofs.Entries.{counts_more}
use Rattle.book_facts.proofs.Commits.{all_push, acked_push, by_now_more, by_now_acknowledged, acked_acknowledged}
use Rattle.book_facts.proofs.Commits.{count_push, count_acknowledged, places_acknowledged, AreAtPlaces, at_places, of_places}
use Rattle.book_facts.proofs.Queues.{queued_taken, queued_places, once_committed, committed_in_order}

-- ---- a known book is legal, but for the bytes that reads gave

pub known_legal : (opening : Objects) (s : State) → KnownOfBook opening s → IsLegalButBytes opening s.book
known_legal opening s known = record {
  answers = known.answers;
  of_accepted = known.commits.of_accepted;
  once = once_committed s.book (intents s.pending) known.queued;
  in_order = committed_in_order s.book (intents s.pending) known.queued;
  acked_first = known.commits.acked_first;
  counts = subst (λ (n : ℕ). AreCountsWithin 0 n s.book.entries) known.commits.counted known.counts;
}

-- ---- at the start

pub nothing_twice : IsDistinct nat_eq []
unfolding IsDistinct
nothing_twice = tt

pub book_opened : (opening : Objects) (f : Found) (space : Space) (next events : ℕ) → IsShape f.rows opening
    → KnownOfBook opening (opened f space next events)
book_opened opening f space next events shape = record {
  answers = tt;
  counts = tt;
  commits = record { of_accepted = tt; acked_first = tt; counted = refl; by_now = tt };
  queued = record { once = nothing_twice; in_order = λ coll. refl };
  contexts = tt;
  last_committed = refl;
  shape = shape;
}

-- ---- calls that change neither the book nor what is under way

pub record KeepBook (s s' : State) : Type 0 where
  pub book : book_part s' ≡ book_part s
  pub waiting : intents s'.pending ≡ intents s.pending
  pub submitted : s'.submitted ≡ s.submitted
  pub events : s.events ≤ s'.events

commits_later : (book : Book) (acked events more : ℕ) → events ≤ more → AreCommits book acked events → AreCommits book acked more
commits_later book acked events more le c =
    record { of_accepted = c.of_accepted; acked_first = c.acked_first; counted = c.counted; by_now = by_now_more events more book.commits le c.by_now }

pub book_stays : (opening : Objects) (s s' : State) → KeepBook s s' → KnownOfBook opening s → KnownOfBook opening s'
book_stays opening s s' keep known =
    subst (λ (b : BookPart). IsBookKnown opening s'.events s'.submitted b (intents s'.pending)) (sym keep.book)
    (subst (λ (xs : List Intent). IsBookKnown opening s'.events s'.submitted (book_part s) xs) (sym keep.waiting)
    (subst (λ (rows : Rows). IsBookKnown opening s'.events rows (book_part s) (intents s.pending)) (sym keep.submitted) (record {
      answers = known.answers;
      counts = known.counts;
      commits = commits_later s.book s.acked s.events s'.events keep.events known.commits;
      queued = known.queued;
      contexts = known.contexts;
      last_committed = known.last_committed;
      shape = known.shape;
    })))

-- ---- a batch is opened

-- one that waits has its commit, and is in the batch
abbrev pub with_taken : Context → BookPart → BookPart
with_taken x p = record p { book = record p.book { commits = p.book.commits ++ commit_of x ∷ [] }; batch = p.batch ++ intent_of x ∷ [] }

abbrev pub with_all : List Context → BookPart → BookPart
with_all [] p = p
with_all (x ∷ xs) p = with_all xs (with_taken x p)

-- of all of them
with_more : (xs : List Context) (p : BookPart)
    → with_all xs p ≡ record p { book = record p.book { commits = p.book.commits ++ map commit_of xs }; batch = p.batch ++ intents xs }
with_more [] p = ap (λ (cs : List Commit). record p { book = record p.book { commits = cs } }) (sym (append-nil p.book.commits))
    ∙ ap (λ (is : List Intent). record p { book = record p.book { commits = p.book.commits ++ [] }; batch = is }) (sym (append-nil p.batch))
with_more (x ∷ xs) p = with_more xs (with_taken x p)
    ∙ ap (λ (cs : List Commit). record p { book = record p.book { commits = cs }; batch = (p.batch ++ intent_of x ∷ []) ++ intents xs })
    (append_assoc p.book.commits (commit_of x ∷ []) (map commit_of xs))
    ∙ ap (λ (is : List Intent). record p { book = record p.book { commits = p.book.commits ++ map commit_of (x ∷ xs) }; batch = is })
    (append_assoc p.batch (intent_of x ∷ []) (intents xs))

taken_part : (s : State) → s.batch ≡ None → with_all (choice most_grouped s.pending) (book_part s) ≡ book_part (taken_up s)
taken_part s none =
    let xs : List Context = choice most_grouped s.pending in
    with_more xs (book_part s)
    ∙ ap (λ (o : Option Batch). record (book_part s) {
      book = record s.book { commits = s.book.commits ++ map commit_of xs };
      batch = intents (option_map_or (λ (b : Batch). b.contexts) o []) ++ intents xs;
    }) none
    ∙ sym (part_taken s none)

-- A fact of the book and of what waits is kept where the one that comes next among these is taken, and so wherever a batch is opened.
abbrev pub IsKeptByNext : (BookPart → List Intent → Type 0) → Type 0
IsKeptByNext K = (p : BookPart) (x : Context) (xs : List Context) (at : IsFirst [] x xs) → K p (intents (at.front ++ x ∷ at.back))
    → K (with_taken x p) (intents (at.front ++ at.back))

pub kept_by_all : (K : BookPart → List Intent → Type 0) → IsKeptByNext K → (p : BookPart) (xs ys left : List Context) → ArePicked xs ys left → K p (intents xs)
    → K (with_all ys p) (intents left)
kept_by_all K next p xs [] left are known = subst (λ (zs : List Context). K p (intents zs)) (sym are) known
kept_by_all K next p xs (y ∷ ys) left (at, are) known =
    kept_by_all K next (with_taken y p) (at.front ++ at.back) ys left are
    (next p y xs at (subst (λ (zs : List Context). K p (intents zs)) at.is known))

pub kept_by_take : (K : BookPart → List Intent → Type 0) → IsKeptByNext K → (s : State) → s.batch ≡ None → Ascends (map (λ z. z.place) s.pending)
    → K (book_part s) (intents s.pending) → (let t : State = taken_up s in K (book_part t) (intents t.pending))
kept_by_take K next s none up known =
    let ys : List Context = choice most_grouped s.pending in
    let left : List Context = left_by most_grouped s.pending in
    subst (λ (p : BookPart). K p (intents left)) (taken_part s none)
    (kept_by_all K next (book_part s) s.pending ys left (picked most_grouped s.pending up) known)

-- what holds of the batch and of all that wait holds of the one that is taken, and of the others
one_of : (P : Intent → Type 0) (front : List Context) (x : Context) (back : List Context) → AllByRecursion P (intents (front ++ x ∷ back))
    → P (intent_of x) × AllByRecursion P (intents (front ++ back))
one_of P [] x back all = all
one_of P (y ∷ front) x back all = let rest = one_of P front x back all.1 in (rest.0, (all.0, rest.1))

pub all_taken : (P : Intent → Type 0) (batch : List Intent) (front : List Context) (x : Context) (back : List Context)
    → AllByRecursion P (batch ++ intents (front ++ x ∷ back))
    → P (intent_of x) × AllByRecursion P ((batch ++ intent_of x ∷ []) ++ intents (front ++ back))
all_taken P batch front x back all =
    let both = one_of P front x back (all_right P batch (intents (front ++ x ∷ back)) all) in (
      both.0,
      all_join P (batch ++ intent_of x ∷ []) (intents (front ++ back))
          (all_push P batch (intent_of x) (all_left P batch (intents (front ++ x ∷ back)) all) both.0) both.1,
    )

-- the queues of collections, as contexts wait
pub queues_taken : (es : List Entry) (commits : List Commit) (x : Context) (xs : List Context) (at : IsFirst [] x xs) → IsOfEntry es (intent_of x)
    → AreQueued (record { entries = es; commits = commits }) (intents (at.front ++ x ∷ at.back))
    → AreQueued (record { entries = es; commits = commits ++ commit_of x ∷ [] }) (intents (at.front ++ at.back))
queues_taken es commits x xs at is queued =
    subst (AreQueued (record { entries = es; commits = commits ++ commit_of x ∷ [] })) (sym (intents_both at.front at.back))
    (queued_taken es commits (commit_of x) (intents at.front) (intent_of x) (intents at.back) refl is at.first
    (subst (AreQueued (record { entries = es; commits = commits })) (intents_both at.front (x ∷ at.back)) queued))

-- no more are applied than there are commits
abbrev IsKnownWithin : Objects → ℕ → Rows → BookPart → List Intent → Type 0
IsKnownWithin opening events submitted p waiting = (p.applied ≤ length p.book.commits) × IsBookKnown opening events submitted p waiting

known_next : (opening : Objects) (events : ℕ) (submitted : Rows) → IsKeptByNext (IsKnownWithin opening events submitted)
known_next opening events submitted p x xs at (within, known) = (
  later p.applied (length p.book.commits) (length (p.book.commits ++ commit_of x ∷ [])) within (length-append p.book.commits (commit_of x ∷ [])),
  record {
    answers = known.answers;
    counts = known.counts;
    commits = record {
      of_accepted =
          all_push (λ c. IsSome (change_at p.book.entries c.place)) p.book.commits (commit_of x) known.commits.of_accepted
          (ap is_some (both.0).accepted);
      acked_first = acked_push 0 p.book.commits (commit_of x) refl known.commits.acked_first;
      counted = known.commits.counted ∙ sym (count_push p.book.commits (commit_of x) refl);
      by_now = all_push (λ c. IfSome c.acked_at (λ a. a ≤ events)) p.book.commits (commit_of x) known.commits.by_now tt;
    };
    queued = queues_taken p.book.entries p.book.commits x xs at both.0 known.queued;
    contexts = both.1;
    last_committed =
        ap (drop p.applied) (map-append (λ (c : Commit). c.place) p.book.commits (commit_of x ∷ []))
        ∙ drop-append-le p.applied (commit_places p.book.commits) (x.place ∷ [])
        (subst (λ (n : ℕ). p.applied ≤ n) (sym (length-map p.book.commits (λ (c : Commit). c.place))) within)
        ∙ ap (λ (ps : List ℕ). ps ++ x.place ∷ []) known.last_committed
        ∙ sym (map-append (λ (i : Intent). i.place) p.batch (intent_of x ∷ []));
    shape = known.shape;
  },
)
  where
    both : IsOfEntry p.book.entries (intent_of x) × AllByRecursion (IsOfEntry p.book.entries) ((p.batch ++ intent_of x ∷ []) ++ intents (at.front ++ at.back))
    both = all_taken (IsOfEntry p.book.entries) p.batch at.front x at.back known.contexts

    later : (applied count more : ℕ) → applied ≤ count → more ≡ count + 1 → applied ≤ more
    later applied count more le is = omega (arith, le, is)

pub book_takes : (opening : Objects) (s : State) → s.batch ≡ None → Ascends (map (λ z. z.place) s.pending) → KnownOfBook opening s
    → KnownOfBook opening (taken_up s)
book_takes opening s none up known =
    (kept_by_take (IsKnownWithin opening s.events s.submitted) (known_next opening s.events s.submitted) s none up (omega arith, known)).1

-- ---- the batch is committed

-- the intents of the open batch
abbrev pub batch_of : State → List Intent
batch_of s = (book_part s).batch

pub book_commits : (opening : Objects) (s : State) (b : Batch) → KnownOfBook opening s → KnownOfBook opening (committed_batch b s)
book_commits opening s b known = record {
  answers = known.answers;
  counts = known.counts;
  commits = known.commits;
  queued = known.queued;
  contexts = all_right (IsOfEntry s.book.entries) (batch_of s) (intents s.pending) known.contexts;
  last_committed = drop_all (length s.book.commits - 0) (commit_places s.book.commits)
      (let same = length-map s.book.commits (λ (c : Commit). c.place) in omega (arith, same));
  shape = known.shape;
}

-- ---- a commit is acknowledged

pub book_finishes : (opening : Objects) (s : State) → s.acked < length s.book.commits → KnownOfBook opening s → KnownOfBook opening (finished s)
book_finishes opening s below known = record {
  answers = known.answers;
  counts = counts_more 0 s.acked (s.acked + 1) s.book.entries (omega arith) known.counts;
  commits = record {
    of_accepted = of_places s.book.entries (acknowledged s.events s.book.commits)
        (subst (λ (ps : List ℕ). AreAtPlaces s.book.entries ps) (sym (places_acknowledged s.events s.book.commits))
        (at_places s.book.entries s.book.commits known.commits.of_accepted));
    acked_first = acked_acknowledged 0 s.events s.book.commits (omega arith) known.commits.by_now known.commits.acked_first;
    counted = counted;
    by_now = by_now_acknowledged s.events s.book.commits known.commits.by_now;
  };
  queued = queued_places s.book.entries s.book.commits (acknowledged s.events s.book.commits) (intents s.pending)
      (places_acknowledged s.events s.book.commits) known.queued;
  contexts = known.contexts;
  last_committed =
      ap (λ (n : ℕ). drop (n - option_map_or (λ (b : Batch). length b.contexts) s.batch 0) (commit_places (acknowledged s.events s.book.commits)))
      (acknowledged_length s.events s.book.commits)
      ∙ ap (drop (applied_count s)) (places_acknowledged s.events s.book.commits) ∙ known.last_committed;
  shape = known.shape;
}
  where
    counted : s.acked + 1 ≡ acked_count (acknowledged s.events s.book.commits)
    counted =
        let was = known.commits.counted in
        let less : acked_count s.book.commits < length s.book.commits = omega (arith, was, below) in
        let now = count_acknowledged s.events s.book.commits less in
        omega (arith, was, now)

-- What each crash so far leaves, as the book and the log grow.
use Rattle.std.proofs.Common.{◌≡◌, ◌⊎◌, inl, inr, ℕ, zero, suc, ◌+◌, ◌<◌, ◌≤◌, Bool, true, false, cond, List, [], ◌∷◌, ◌++◌, length, take}
use Rattle.std.proofs.Common.{Option, Some, None}
use Rattle.std.proofs.Common.{slice_get, is_some, refl, sym, ap, subst, ◌∙◌, arith, length-append, append-nil, append_assoc}
use Rattle.std.specs.Prelude.{IfSome, IsSome, IsSomeAnd}
use Rattle.std.specs.List.{AllByRecursion}
use Rattle.std.proofs.lemmas.List.{take-append-le}
use Rattle.byte_maps.specs.Units.{unit_at}
use Rattle.block_device.specs.Prelude.{last, WritesNothing, History}
use Rattle.block_device.specs.declared.event.Event.{Event}
use Rattle.block_device.specs.declared.event.Event.TheVariants.{Write, Flush, Done}
use Rattle.block_device.proofs.LogLemmas.{slice_get-push_cases, each_cut_push, each_cut_weaker}
use Rattle.block_device.proofs.LawLemmas.{last_mono, image_mono}
use Rattle.object_model.specs.Prelude.{Objects, Change, replay, change_at, committed, IsAckedBy, HasAcked}
use Rattle.object_model.specs.declared.book.Book.{Book}
use Rattle.object_model.specs.declared.book.Commit.{Commit}
use Rattle.object_model.specs.declared.book.Entry.{Entry}
use Rattle.meta_log.specs.Prelude.{active_unit}
use Rattle.store_image.specs.Prelude.{StaysExact, StandsFor, NoChanceMatch, AreAsWritten, IsOutranked, LeavesPrefix, EachCutStands}
use Rattle.store_steps.specs.Prelude.{acknowledged, Intent, BookPart, Touch, nothing, ends, flushes, on_data, on_half, on_other, on_slot, after, run_write, BookGoes, enters, commits, acknowledges, commits_of}
use Rattle.store_steps.specs.BookGoes.{same, applies}
use Rattle.flight_facts.proofs.Prelude.{acknowledged_length}
use Rattle.book_facts.proofs.Prelude.{places_acknowledged, changes_at, applied_by_places, applied_entry}
use Rattle.crash_facts.proofs.Exact.{same_contents}

-- ---- the book grows

-- a later book says the same of the first commits, and of what was acknowledged by a cut
record Grows (base cut : ℕ) (book book' : Book) : Type 0 where
  more : length book.commits ≤ length book'.commits
  acked : (count : ℕ) → HasAcked base cut book.commits count → HasAcked base cut book'.commits count
  agrees : (count : ℕ) → count ≤ length book.commits
      → committed book'.entries (take count book'.commits) ≡ committed book.entries (take count book.commits)

prefix_grows : (base : ℕ) (start : List ℕ) (opening : Objects) (book book' : Book) (log : List Event) → Grows base (length log) book book'
    → LeavesPrefix base start opening book log → LeavesPrefix base start opening book' log
prefix_grows base start opening book book' log grows leaves image is chance =
    let was = leaves image is chance in
    record {
      count = was.count;
      within = omega (arith, was.within, grows.more);
      has_acked = grows.acked was.count was.has_acked;
      stands = subst (λ (l : List Change). StandsFor image (replay opening l)) (sym (grows.agrees was.count was.within)) was.stands;
      exact = was.exact;
    }

-- one more commit, that isn't acknowledged
acked_push : (base cut count : ℕ) (cs : List Commit) (c : Commit) → c.acked_at ≡ None → HasAcked base cut cs count
    → HasAcked base cut (cs ++ c ∷ []) count
acked_push base cut count cs c none has i = of_get (slice_get (cs ++ c ∷ []) i) refl
  where
    of_get : (o : Option Commit) → slice_get (cs ++ c ∷ []) i ≡ o → IfSome o (λ x. IsAckedBy base cut x → i < count)
    of_get None e = tt
    of_get (Some x) e = elim (slice_get-push_cases cs c x i e) [
      | inl old ↦ subst (λ o. IfSome o (λ y. IsAckedBy base cut y → i < count)) old (has i)
      | inr new ↦ λ acked. absurd (subst (λ o. IsSomeAnd o (λ a. base + a ≤ cut)) (ap (λ (y : Commit). y.acked_at) (sym new.1) ∙ none) acked)
    ]

acked_all : (base cut count : ℕ) (cs : List Commit) (xs : List Intent) → HasAcked base cut cs count → HasAcked base cut (cs ++ commits_of xs) count
acked_all base cut count cs [] has = subst (λ l. HasAcked base cut l count) (sym (append-nil cs)) has
acked_all base cut count cs (x ∷ xs) has =
    let one : Commit = record { place = x.place; acked_at = None } in
    subst (λ l. HasAcked base cut l count) (append_assoc cs (one ∷ []) (commits_of xs))
    (acked_all base cut count (cs ++ one ∷ []) xs (acked_push base cut count cs one refl has))

takes_commits : (base cut : ℕ) (book : Book) (xs : List Intent) → Grows base cut book (record book { commits = book.commits ++ commits_of xs })
takes_commits base cut book xs = record {
  more = omega (arith, length-append book.commits (commits_of xs));
  acked = λ count has. acked_all base cut count book.commits xs has;
  agrees = λ count below. ap (committed book.entries) (take-append-le count book.commits (commits_of xs) below);
}

-- an acknowledgement now says nothing of an earlier cut
acked_now : (events i : ℕ) (cs : List Commit) (P : Commit → Type 0) → IfSome (slice_get cs i) P
    → ((c : Commit) → P (record c { acked_at = Some events }))
    → IfSome (slice_get (acknowledged events cs) i) P
acked_now events i [] P old new = old
acked_now events i (c ∷ cs) P old new = by_test (is_some c.acked_at) i old (λ j later. acked_now events j cs P later new)
  where
    by_test : (b : Bool) (i : ℕ) → IfSome (slice_get (c ∷ cs) i) P
        → ((j : ℕ) → IfSome (slice_get cs j) P → IfSome (slice_get (acknowledged events cs) j) P)
        → IfSome (slice_get (cond b (c ∷ acknowledged events cs) (record c { acked_at = Some events } ∷ cs)) i) P
    by_test true zero old more = old
    by_test true (suc j) old more = more j old
    by_test false zero old more = new c
    by_test false (suc j) old more = old

finishes_one : (base cut events : ℕ) (book : Book) → cut < base + events
    → Grows base cut book (record book { commits = acknowledged events book.commits })
finishes_one base cut events book before = record {
  more = omega (arith, acknowledged_length events book.commits);
  acked = λ count has i. acked_now events i book.commits (λ c. IsAckedBy base cut c → i < count) (has i)
      (λ c late. absurd (omega (arith, late, before)));
  agrees = λ count below. applied_by_places book.entries (acknowledged events book.commits) count
      ∙ ap (λ (ps : List ℕ). changes_at book.entries (take count ps)) (places_acknowledged events book.commits)
      ∙ sym (applied_by_places book.entries book.commits count);
}

-- one more entry
notes_one : (base cut : ℕ) (book : Book) (e : Entry) → AllByRecursion (λ c. IsSome (change_at book.entries c.place)) book.commits
    → Grows base cut book (record book { entries = book.entries ++ e ∷ [] })
notes_one base cut book e are = record {
  more = omega arith;
  acked = λ count has. has;
  agrees = λ count below. applied_entry book.entries e book.commits count are;
}

-- ---- the log grows

-- a crash behind an event that writes nothing leaves what one before it did
pub quiet_leaves : (base events : ℕ) (h : History) (opening : Objects) (book : Book) (e : Event) → WritesNothing e → length h.log ≡ base + events
    → AllByRecursion (λ c. IfSome c.acked_at (λ a. a ≤ events)) book.commits
    → LeavesPrefix base h.start opening book h.log → LeavesPrefix base h.start opening book (h.log ++ e ∷ [])
quiet_leaves base events h opening book e none counted by_now leaves image is chance =
    let same : last h.start (h.log ++ e ∷ []) ≡ last h.start h.log = last_mono h.start h.log e none in
    let earlier : NoChanceMatch h.start h.log image = record {
      records = λ s recs active begins. subst (AreAsWritten recs s.first (active_unit s) image) same (chance.records s recs active begins);
      slots = λ at s below valid. subst (λ (l : List ℕ). IsOutranked image at s ⊎ (unit_at at image ≡ unit_at at l)) same
          (chance.slots at s below valid);
    } in
    let was = leaves image (image_mono h.start h.log e image none is) earlier in
    record {
      count = was.count;
      within = was.within;
      has_acked = λ i. of_get i was.count (slice_get book.commits i) (each_at book.commits i by_now) (was.has_acked i);
      stands = was.stands;
      exact = subst (λ (contents : List ℕ). StaysExact contents image) (sym (same_contents base h e (omega (arith, counted)))) was.exact;
    }
  where
    each_at : (cs : List Commit) (i : ℕ) → AllByRecursion (λ c. IfSome c.acked_at (λ a. a ≤ events)) cs
        → IfSome (slice_get cs i) (λ c. IfSome c.acked_at (λ a. a ≤ events))
    each_at [] i all = tt
    each_at (c ∷ cs) zero all = all.0
    each_at (c ∷ cs) (suc i) all = each_at cs i all.1

    acked_before : (o : Option ℕ) → IfSome o (λ a. a ≤ events) → IsSomeAnd o (λ a. base + a ≤ length (h.log ++ e ∷ []))
        → IsSomeAnd o (λ a. base + a ≤ length h.log)
    acked_before None by acked = acked
    acked_before (Some a) by acked = omega (arith, by, counted)

    of_get : (i count : ℕ) (o : Option Commit) → IfSome o (λ c. IfSome c.acked_at (λ a. a ≤ events))
        → IfSome o (λ c. IsAckedBy base (length h.log) c → i < count)
        → IfSome o (λ c. IsAckedBy base (length (h.log ++ e ∷ [])) c → i < count)
    of_get i count None by has = tt
    of_get i count (Some c) by has = λ acked. has (acked_before c.acked_at by acked)

-- ---- each call

-- no event
same_log : (base : ℕ) (h : History) (opening : Objects) (book book' : Book) → ((cut : ℕ) → cut < length h.log → Grows base cut book book')
    → EachCutStands base h opening book → LeavesPrefix base h.start opening book' h.log → EachCutStands base h opening book'
same_log base h opening book book' grows cuts now =
    each_cut_weaker base h.log (LeavesPrefix base h.start opening book) (LeavesPrefix base h.start opening book') cuts
    (λ front short leaves. prefix_grows base h.start opening book book' front (grows (length front) short) leaves) now

-- the log grows by what a call adds, and the book is as it was
more_log : (base : ℕ) (opening : Objects) (book : Book) (t : Touch) (h : History) → EachCutStands base h opening book
    → LeavesPrefix base h.start opening book (after t h).log → EachCutStands base (after t h) opening book
more_log base opening book nothing h cuts now = cuts
more_log base opening book (ends ticket) h cuts now = each_cut_push base h.log (Done ticket true) (LeavesPrefix base h.start opening book) cuts now
more_log base opening book (flushes ticket) h cuts now = each_cut_push base h.log Flush (LeavesPrefix base h.start opening book) cuts now
more_log base opening book (on_data ticket run) h cuts now = each_cut_push base h.log (run_write run) (LeavesPrefix base h.start opening book) cuts now
more_log base opening book (on_half ticket unit bytes) h cuts now =
    each_cut_push base h.log (Write unit bytes) (LeavesPrefix base h.start opening book) cuts now
more_log base opening book (on_other ticket unit bytes) h cuts now =
    each_cut_push base h.log (Write unit bytes) (LeavesPrefix base h.start opening book) cuts now
more_log base opening book (on_slot ticket unit bytes) h cuts now =
    each_cut_push base h.log (Write unit bytes) (LeavesPrefix base h.start opening book) cuts now

pub touched_start : (h : History) (t : Touch) → (after t h).start ≡ h.start
touched_start h nothing = refl
touched_start h (ends ticket) = refl
touched_start h (flushes ticket) = refl
touched_start h (on_data ticket run) = refl
touched_start h (on_half ticket unit bytes) = refl
touched_start h (on_other ticket unit bytes) = refl
touched_start h (on_slot ticket unit bytes) = refl

pub book_cuts : (base events : ℕ) (opening : Objects) (t : Touch) (p q : BookPart) (h : History) → BookGoes events t p q
    → AllByRecursion (λ c. IsSome (change_at p.book.entries c.place)) p.book.commits → length h.log ≡ base + events → EachCutStands base h opening p.book
    → LeavesPrefix base h.start opening q.book (after t h).log → EachCutStands base (after t h) opening q.book
book_cuts base events opening t p q h (same is) are counted cuts now =
    let book : q.book ≡ p.book = ap (λ (r : BookPart). r.book) is in
    subst (EachCutStands base (after t h) opening) (sym book)
    (more_log base opening p.book t h cuts (subst (λ (b : Book). LeavesPrefix base h.start opening b (after t h).log) book now))
book_cuts base events opening t p q h (enters e is) are counted cuts now =
    same_log base h opening p.book q.book (λ cut below. subst (Grows base cut p.book) (sym (ap (λ (r : BookPart). r.book) is))
    (notes_one base cut p.book e are)) cuts now
book_cuts base events opening t p q h (commits xs none is) are counted cuts now =
    same_log base h opening p.book q.book (λ cut below. subst (Grows base cut p.book) (sym (ap (λ (r : BookPart). r.book) is))
    (takes_commits base cut p.book xs)) cuts now
book_cuts base events opening t p q h (applies count all is) are counted cuts now =
    subst (EachCutStands base h opening) (sym (ap (λ (r : BookPart). r.book) is)) cuts
book_cuts base events opening t p q h (acknowledges is) are counted cuts now =
    same_log base h opening p.book q.book (λ cut below. subst (Grows base cut p.book) (sym (ap (λ (r : BookPart). r.book) is))
    (finishes_one base cut events p.book (omega (arith, below, counted)))) cuts now

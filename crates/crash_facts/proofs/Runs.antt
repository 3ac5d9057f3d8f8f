-- Runs of calls: each crash leaves a front of the commits, and once the kernel is drained the device stands for all that was accepted.
use Rattle.std.proofs.Common.{◌≡◌, inl, inr, ℕ, ◌+◌, true, List, [], ◌∷◌, ◌++◌, length, take, Option, Some, None}
use Rattle.std.proofs.Common.{refl, sym, ap, subst}
use Rattle.std.proofs.Common.{◌∙◌, arith, length-append}
use Rattle.std.proofs.lemmas.Option.{same_Some}
use Rattle.std.proofs.lemmas.List.{take_all}
use Rattle.block_device.specs.Prelude.{last, IsClean, Disk, History, IsSound, history_after, with_event, last_at}
use Rattle.block_device.specs.declared.device.Ticket.{Ticket}
use Rattle.block_device.specs.declared.event.Event.{Event}
use Rattle.block_device.specs.declared.event.Event.TheVariants.{Done}
use Rattle.block_device.proofs.LogLemmas.{each_cut_push}
use Rattle.object_model.specs.Prelude.{Objects, replay, accepted}
use Rattle.meta_log.specs.Prelude.{width_of}
use Rattle.store_image.specs.Prelude.{IsLeakedIn, StaysExact, StandsFor, LeavesPrefix, EachCutStands}
use Rattle.store_image.proofs.Prelude.{objects_stand}
use Rattle.log_facts.proofs.Crashes.{log_reads, log_stands}
use Rattle.log_facts.proofs.Cuts.{exact_image}
use Rattle.unit_allocator.specs.Prelude.{Space}
use Rattle.store_steps.specs.Prelude.{State, is_drained, Found, opened, intents, book_part, after, Footprint, Call, Calls, IsRun, uncommitted, second_flush}
use Rattle.plan_drafts.specs.Prelude.{PlansKeep}
use Rattle.run_facts.specs.Prelude.{IsKept}
use Rattle.run_facts.proofs.Prelude.{IsIdle, known_idle, kept_call, kept_run, footprint_of, was_up, Ends, IsStill, not_both, down_call}
use Rattle.book_facts.specs.Prelude.{KnownOfBook}
use Rattle.book_facts.proofs.Prelude.{book_opened, book_call, stand_none}
use Rattle.crash_facts.specs.HeldBytes.{held_or_last}
use Rattle.unit_facts.specs.Known.{KnownOfUnits}
use Rattle.unit_facts.proofs.Calls.{footprint_known, opened_known}
use Rattle.unit_facts.proofs.Runs.{idle_half, idle_other, drained_clean}
use Rattle.crash_facts.specs.Store.{contents_at, KnownOfStore, IsDurable, IsMounted}
use Rattle.crash_facts.proofs.Submitted.{idle_objects}
use Rattle.crash_facts.proofs.Answered.{AreAnswered, call_answers}
use Rattle.crash_facts.proofs.OldBytes.{old_bytes}
use Rattle.crash_facts.proofs.Standing.{footprint_stand}
use Rattle.crash_facts.proofs.Exact.{rows_exact, exact_none, footprint_exact}
use Rattle.crash_facts.proofs.Now.{now_stands, size_now}
use Rattle.crash_facts.proofs.Cuts.{quiet_leaves, touched_start, book_cuts}

-- ---- each call

module _ (base : ℕ) (opening : Objects) (call : Call) (s s' : State) (d d' : Disk) (plans : PlansKeep) (kept : IsKept s d) (sound : IsSound d')
    (durable : IsDurable base opening s d) (made : Calls call s d s' d') where
  -- the book behind it, and its answers
  book' : KnownOfBook opening s'
  book' = book_call opening call s s' d d' plans kept durable.book made

  answered' : AreAnswered opening s'.book.entries
  answered' = call_answers base opening call s s' d d' kept durable book' made

  -- one that leaves the kernel up
  durable_up : s'.down ≡ None → IsDurable base opening s' d'
  durable_up up =
      let before : s.down ≡ None = was_up call s d s' d' made up in
      let h : History = durable.history in
      let store : KnownOfStore base opening s d h = durable.up before in
      let f : Footprint s d s' d' = footprint_of call s d s' d' kept up made in
      let h' : History = after f.touch h in
      let kept' : IsKept s' d' = kept_call call s s' d d' plans kept made sound in
      let units : KnownOfUnits base s' d' h' = footprint_known base s s' d d' h f kept before store.units in
      let known : KnownOfStore base opening s' d' h' = record {
        units = units;
        book = book';
        stand = footprint_stand opening s s' d d' h plans kept before (size_now s d h kept durable.told) store.units.held durable.book store.stand
            (old_bytes base opening s s' d h kept before store) f;
        exact = footprint_exact base s s' d d' h f kept' up (omega (arith, durable.counted)) store.exact;
      } in
      let now : LeavesPrefix base h'.start opening s'.book h'.log = now_stands base opening s' d' h' kept' up known in
      record {
        history = h';
        told = units.told;
        counted = units.answered.counted;
        book = book';
        answers = answered'.answers;
        no_csum = answered'.no_csum;
        cuts = book_cuts base s.events opening f.touch (book_part s) (book_part s') h f.book durable.book.commits.of_accepted durable.counted
            durable.cuts (subst (λ (l : List ℕ). LeavesPrefix base l opening s'.book h'.log) (touched_start h f.touch) now);
        up = λ _. known;
      }

  -- one that leaves it down: it takes an end
  durable_ended : (s'.down ≡ None → ⊥) → Ends s d s' d' → IsDurable base opening s' d'
  durable_ended gone end =
      let h : History = durable.history in
      let e : Event = Done end.ticket.place end.ok in
      let told : d'.history ≡ Some (with_event h e) =
      ap (λ (x : Disk). x.history) end.ended.after ∙ ap (λ (o : Option History). history_after o e) durable.told in
      let all : take (length h.log) h.log ≡ h.log = take_all (length h.log) h.log (omega arith) in
      let last_cut : LeavesPrefix base h.start opening s.book h.log =
      subst (LeavesPrefix base h.start opening s.book) all (durable.cuts (length h.log) (omega (arith, durable.counted)) (omega arith)) in
      let leaves : LeavesPrefix base h.start opening s.book (h.log ++ e ∷ []) =
      quiet_leaves base s.events h opening s.book e tt durable.counted durable.book.commits.by_now last_cut in
      let cuts : EachCutStands base (with_event h e) opening s.book =
      each_cut_push base h.log e (LeavesPrefix base h.start opening s.book) durable.cuts leaves in
      record {
        history = with_event h e;
        told = told;
        counted = omega (arith, length-append h.log (e ∷ []), durable.counted, ap (λ (t : State). t.events) end.after);
        book = book';
        answers = answered'.answers;
        no_csum = answered'.no_csum;
        cuts = subst (λ (t : State). EachCutStands base (with_event h e) opening t.book) (sym end.after) cuts;
        up = λ none. absurd (gone none);
      }

  -- or nothing happens
  durable_still : (s'.down ≡ None → ⊥) → IsStill s d s' d' → IsDurable base opening s' d'
  durable_still gone still = record {
    history = durable.history;
    told = still.history ∙ durable.told;
    counted = durable.counted ∙ ap (λ (t : State). base + t.events) (sym still.state);
    book = book';
    answers = answered'.answers;
    no_csum = answered'.no_csum;
    cuts = subst (λ (t : State). EachCutStands base durable.history opening t.book) (sym still.state) durable.cuts;
    up = λ none. absurd (gone none);
  }

  durable_down : (first : Ticket) → s'.down ≡ Some first → IsDurable base opening s' d'
  durable_down first down = elim (down_call call s d s' d' first kept down made) [
    | inl end ↦ durable_ended gone end
    | inr still ↦ durable_still gone still
  ]
    where
      gone : s'.down ≡ None → ⊥
      gone none = not_both s'.down first none down

  pub call_durable : IsDurable base opening s' d'
  call_durable = of_down s'.down refl
    where
      of_down : (o : Option Ticket) → s'.down ≡ o → IsDurable base opening s' d'
      of_down None e = durable_up e
      of_down (Some first) e = durable_down first e

-- ---- runs

pub run_durable : (base : ℕ) (opening : Objects) (calls : List Call) (s s' : State) (d d' : Disk) → PlansKeep → IsKept s d → IsDurable base opening s d
    → IsRun s d calls s' d' → IsDurable base opening s' d'
run_durable base opening [] s s' d d' plans kept durable run =
    subst (λ (t : State). IsDurable base opening t d') (sym run.0) (subst (IsDurable base opening s) (sym run.1) durable)
run_durable base opening (call ∷ calls) s s' d d' plans kept durable run =
    let t : State = run.0 in
    let e : Disk = run.1.0 in
    run_durable base opening calls t s' e d' plans (kept_call call s t d e plans kept run.1.1.0 run.1.1.1.0)
    (call_durable base opening call s t d e plans kept run.1.1.1.0 durable run.1.1.0) run.1.1.1.1

-- ---- a store that was just mounted

pub mounted_durable : (base : ℕ) (opening : Objects) (f : Found) (space : Space) (next events : ℕ) (d : Disk) (h : History) → d.history ≡ Some h
    → d.flights ≡ [] → IsMounted base opening f events h → IsDurable base opening (opened f space next events) d
mounted_durable base opening f space next events d h told none is =
    let s : State = opened f space next events in
    let known : KnownOfStore base opening s d h = record {
      units = opened_known base f is.recs space next events d h told none is.answered is.clean is.slots is.rests is.half;
      book = book_opened opening f space next events is.stand.shape;
      stand = stand_none (width_of f.sup) (held_or_last h []) f.rows opening []
          (objects_stand (width_of f.sup) (last_at h) (held_or_last h []) f.rows (λ unit has. refl) opening is.stand);
      exact = exact_none (width_of f.sup) (IsLeakedIn (contents_at base h)) f.rows is.exact;
    } in
    record {
      history = h;
      told = told;
      counted = is.answered.counted;
      book = known.book;
      answers = tt;
      no_csum = tt;
      cuts = is.cuts;
      up = λ _. known;
    }

-- ---- once it is drained

pub drained_stands : (base : ℕ) (opening : Objects) (s : State) (d : Disk) (h : History) → IsKept s d → s.down ≡ None → is_drained d.depth s ≡ true
    → KnownOfStore base opening s d h → StandsFor (last h.start h.log) (replay opening (accepted s.book.entries))
drained_stands base opening s d h kept up drained known =
    let idle : IsIdle s = known_idle s d kept up drained in
    let half = idle_half base s d h known.units idle.begun in
    log_stands h s.log.sup s.log.rows s.log.tail s.log.number 0 (second_flush s.batch) half.0 (replay opening (accepted s.book.entries))
    (size_now s d h kept known.units.told) (idle_other base s d h known.units idle.switching).0 half.1 (kept.up up).rows.good.good
    (idle_objects base opening s d h kept up known idle)

pub drained_exact : (base : ℕ) (opening : Objects) (s : State) (d : Disk) (h : History) → IsKept s d → s.down ≡ None → is_drained d.depth s ≡ true
    → KnownOfStore base opening s d h → StaysExact (contents_at base h) (last h.start h.log)
drained_exact base opening s d h kept up drained known =
    let idle : IsIdle s = known_idle s d kept up drained in
    let half = idle_half base s d h known.units idle.begun in
    let found = log_reads h s.log.sup s.log.rows s.log.tail s.log.number 0 (second_flush s.batch) half.0
    (size_now s d h kept known.units.told) (idle_other base s d h known.units idle.switching).0 half.1 in
    exact_image (contents_at base h) (last h.start h.log) s.log.sup s.log.rows found.0 found.1
    (rows_exact (width_of s.log.sup) (IsLeakedIn (contents_at base h)) s.log.rows (intents (uncommitted s)) known.exact)

-- ---- at the end of a run

module _ (base : ℕ) (opening : Objects) (calls : List Call) (s s' : State) (d d' : Disk) (h' : History) (plans : PlansKeep) (kept : IsKept s d)
    (durable : IsDurable base opening s d) (run : IsRun s d calls s' d') (told' : d'.history ≡ Some h') where
  at_end : IsDurable base opening s' d'
  at_end = run_durable base opening calls s s' d d' plans kept durable run

  same : at_end.history ≡ h'
  same = same_Some at_end.history h' (sym at_end.told ∙ told')

  pub each_cut : EachCutStands base h' opening s'.book
  each_cut = subst (λ (k : History). EachCutStands base k opening s'.book) same at_end.cuts

  -- once it is drained
  module _ (up : s'.down ≡ None) (drained : is_drained d'.depth s' ≡ true) where
    kept' : IsKept s' d'
    kept' = kept_run calls s s' d d' plans kept run

    known' : KnownOfStore base opening s' d' h'
    known' = subst (KnownOfStore base opening s' d') same (at_end.up up)

    pub end_stands : StandsFor (last h'.start h'.log) (replay opening (accepted s'.book.entries))
    end_stands = drained_stands base opening s' d' h' kept' up drained known'

    pub end_exact : StaysExact (contents_at base h') (last h'.start h'.log)
    end_exact = drained_exact base opening s' d' h' kept' up drained known'

    pub end_clean : (unit : ℕ) → IsClean h'.log unit
    end_clean = drained_clean base s' d' h' kept' known'.units up drained

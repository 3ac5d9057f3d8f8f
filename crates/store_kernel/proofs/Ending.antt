-- What the end of a submission does to the state.
use Rattle.std.proofs.Common.{◌≡◌, ℕ, ◌+◌, ◌<◌, ◌≤◌, not, Bool, true, false, cond, List, [], ◌∷◌, ◌++◌, map, Option, Some, None, is_some, IfSome, refl, sym, ap, subst, ◌∙◌, arith}
use Rattle.std.specs.Option.{option_map, option_or}
use Rattle.std.specs.Prelude.{MatchOption}
use Rattle.std.proofs.lemmas.Option.{same_Some}
use Rattle.block_device.specs.Prelude.{Disk, Reaped}
use Rattle.block_device.specs.declared.device.Ticket.{Ticket}
use Rattle.meta_store.specs.Store as meta
use Rattle.meta_store.specs.Checks.{IsCheckOut}
use Rattle.store_steps.specs.declared.context.Context.{Context}
use Rattle.store_steps.specs.declared.flight.FlushState.TheVariants as flush
use Rattle.store_steps.specs.declared.flight.Flying.{Flying}
use Rattle.store_steps.specs.declared.flight.Job.{Job}
use Rattle.store_steps.specs.declared.flight.Job.TheVariants as job
use Rattle.store_steps.specs.Prelude.{Batch, State, after_done, after_good, first_flushed, second_flushed, down_by, flying_of, landed, Takes}
use Rattle.std.specs.List.{AllByRecursion}
use Rattle.run_facts.specs.Prelude.{IsKept}
use Rattle.flight_facts.proofs.Prelude.{StandsIn, others_of, landed_flight, reaped_good, IsLeftOut, left_out, IsOf, found_tells}
use Rattle.store_kernel.specs.declared.batch.OpenBatch.{OpenBatch}
use Rattle.store_kernel.specs.Seen.{batch_of}
use Rattle.store_kernel.specs.Ends.{with_first, with_second, contexts_after, batch_after, switching_after, meta_after}
use Rattle.waiting_contexts.specs.Places.{context_at}
use Rattle.unit_fields.specs.Prelude.{Ascends}
use Rattle.std.proofs.lemmas.Bool.{eq-eqb, ne_eqb}

-- what has ended was in flight
landed_one : (s : State) (d d' : Disk) (t : Ticket) (ok : Bool) → IsKept s d → Reaped d t.place ok d' → IsLeftOut t s.flying
landed_one s d d' t ok kept ended = left_out t s.flying (landed_flight d d' t ok s.flying kept.always.flights ended).fewer

-- ---- a bad end

-- the first one that ended badly stays
first_bad : (o : Option Ticket) (t : Ticket) → option_or o (Some t) ≡ down_by o t
first_bad None t = refl
first_bad (Some first) t = refl

-- the kernel is down from then on
pub bad_takes : (s : State) (d d' : Disk) (t : Ticket) (flying : List Flying) (down : Option Ticket) → flying ≡ others_of t s.flying
    → down ≡ option_or s.down (Some t) → Reaped d t.place false d' → Takes s d false (record s { flying = flying; down = down; events = s.events + 1 }) d'
bad_takes s d d' t flying down left is ended = record {
  ticket = t;
  ended = ended;
  after =
      ap (λ (l : List Flying). let after : State = record s { flying = l; down = down; events = s.events + 1 } in after) left
      ∙ ap (λ (o : Option Ticket). let after : State = record (landed t s) { down = o } in after) (is ∙ first_bad s.down t);
}

-- ---- whether a good end counts

-- it does, and was for this job
pub it_counts : (down : Option Ticket) (landed : Option Job) (j : Job) → MatchOption down (Some j ≡ landed) (λ _. Some j ≡ None)
    → (down ≡ None) × (landed ≡ Some j)
it_counts None landed j is = (refl, sym is)
it_counts (Some first) landed j is = absurd cc

-- it doesn't, since the kernel is down
pub it_counts_not : (down : Option Ticket) (landed : Option Job) → MatchOption down (None ≡ landed) (λ _. let none : Option Job = None in none ≡ None)
    → (landed ≡ None → ⊥) → is_some down ≡ true
it_counts_not None landed is some = absurd (some (sym is))
it_counts_not (Some first) landed is some = refl

-- ---- a good end, where it counts for nothing

-- the kernel is down
pub late_takes : (s : State) (d d' : Disk) (t : Ticket) (flying : List Flying) → flying ≡ others_of t s.flying → is_some s.down ≡ true
    → Reaped d t.place true d' → Takes s d true (record s { flying = flying; events = s.events + 1 }) d'
late_takes s d d' t flying left down ended = record {
  ticket = t;
  ended = ended;
  after =
      ap (λ (l : List Flying). let after : State = record s { flying = l; events = s.events + 1 } in after) left
      ∙ ap (λ (b : Bool). cond b (landed t s) (after_good (flying_of t s.flying) (landed t s))) (sym down);
}

-- what has ended had a job
pub was_flying : (s : State) (d d' : Disk) (t : Ticket) (ok : Bool) → IsKept s d → Reaped d t.place ok d'
    → option_map (λ (f : Flying). f.job) (flying_of t s.flying) ≡ None → ⊥
was_flying s d d' t ok kept ended none =
    let out : IsLeftOut t s.flying = landed_one s d d' t ok kept ended in
    let some : None ≡ Some out.flight.job = sym none ∙ ap (option_map (λ (f : Flying). f.job)) out.found in
    cc

-- ---- a good end, where it counts

-- the submission that has ended was for this job
pub record EndedFor (s : State) (t : Ticket) (j : Job) : Type 0 where
  pub out : IsLeftOut t s.flying
  pub its_job : out.flight.job ≡ j

pub ended_for : (s : State) (d d' : Disk) (t : Ticket) (ok : Bool) (j : Job) → IsKept s d → Reaped d t.place ok d'
    → option_map (λ (f : Flying). f.job) (flying_of t s.flying) ≡ Some j → EndedFor s t j
ended_for s d d' t ok j kept ended is =
    let out : IsLeftOut t s.flying = landed_one s d d' t ok kept ended in
    record { out = out; its_job = same_Some out.flight.job j (sym (ap (option_map (λ (f : Flying). f.job)) out.found) ∙ is) }

-- what it tells
tells : (s : State) (d : Disk) (t : Ticket) (j : Job) → IsKept s d → s.down ≡ None → EndedFor s t j → IsOf s t.place j
tells s d t j kept down ended = subst (IsOf s t.place) ended.its_job (found_tells s d.flights t ended.out (kept.up down).flights)

-- of several contexts whose places ascend the one at a place is found
found_there : (P : Context → Type 0) (place : ℕ) (front : List Context) (x : Context) (back : List Context)
    → Ascends (map (λ (y : Context). y.place) (front ++ x ∷ back)) → x.place ≡ place → P x → IfSome (context_at place (front ++ x ∷ back)) P
found_there P place [] x back ascend same holds =
    subst (λ (b : Bool). IfSome (cond b (Some x) (context_at place back)) P) (sym (eq-eqb x.place place same)) holds
found_there P place (y ∷ front) x back ascend same holds =
    subst (λ (b : Bool). IfSome (cond b (Some y) (context_at place (front ++ x ∷ back))) P)
    (sym (ne_eqb y.place place (λ e. absurd (omega (arith, e, same, before front ascend.0)))))
    (found_there P place front x back ascend.1 same holds)
  where
    before : (zs : List Context) → AllByRecursion (λ v. y.place < v) (map (λ (z : Context). z.place) (zs ++ x ∷ back)) → y.place < x.place
    before [] all = all.0
    before (z ∷ zs) all = before zs all.1

-- so many units of the context of a data write were given that weren't counted as done
pub can_count_done : (s : State) (d : Disk) (t : Ticket) (j : Job) → IsKept s d → s.down ≡ None → EndedFor s t j → (place count : ℕ)
    → j ≡ job.Data place count → IfSome (context_at place s.pending) (λ x. x.done + count ≤ x.given)
can_count_done s d t j kept down ended place count is =
    let at : StandsIn (λ (y : Context). (y.place ≡ place) × (y.done + count ≤ y.given)) s.pending =
    tells s d t (job.Data place count) kept down (subst (EndedFor s t) is ended) in
    subst (λ (xs : List Context). IfSome (context_at place xs) (λ x. x.done + count ≤ x.given)) (sym at.is)
    (found_there (λ x. x.done + count ≤ x.given) place at.front at.item at.back
    (subst (λ (xs : List Context). Ascends (map (λ (y : Context). y.place) xs)) at.is (kept.up down).flights.places.ascend) at.holds.0 at.holds.1)

-- what is found holds of what there is
out_of : {A : Type 0} (P : A → Type 0) (o : Option A) (x : A) → o ≡ Some x → P x → MatchOption o ⊥ P
out_of {A} P o x is holds = subst (λ (p : Option A). MatchOption p ⊥ P) (sym is) holds

-- a piece of a record that was in flight is of one that is being written, and so is a piece of a checkpoint
pub piece_out : (s : State) (d : Disk) (t : Ticket) (j : Job) → IsKept s d → s.down ≡ None → EndedFor s t j → j ≡ job.Record → meta.IsPieceOut s.log
piece_out s d t j kept down ended is =
    let of = tells s d t job.Record kept down (subst (EndedFor s t) is ended) in
    out_of (λ (r : meta.Begun). r.written < r.given) s.log.begun of.0 of.1 of.2

pub check_out : (s : State) (d : Disk) (t : Ticket) (j : Job) → IsKept s d → s.down ≡ None → EndedFor s t j → j ≡ job.Check → IsCheckOut s.log
check_out s d t j kept down ended is =
    let of = tells s d t job.Check kept down (subst (EndedFor s t) is ended) in
    out_of (λ (c : meta.Checking). c.written < c.given) s.log.check of.0 of.1 of.2

-- ---- what a good end does, job by job

-- the state once the end of a submission for this job was counted, with this batch
abbrev counted : State → List Flying → Job → Option Batch → State
counted s flying j batch = record s {
  log = meta_after j s.log;
  pending = contexts_after j s.pending;
  batch = batch;
  switching = switching_after j s.switching;
  flying = flying;
  events = s.events + 1;
}

first_of : (b : Option OpenBatch) → option_map batch_of (option_map (with_first flush.Flushed) b) ≡ option_map first_flushed (option_map batch_of b)
first_of None = refl
first_of (Some b) = refl

second_of : (b : Option OpenBatch) → option_map batch_of (option_map (with_second flush.Flushed) b) ≡ option_map second_flushed (option_map batch_of b)
second_of None = refl
second_of (Some b) = refl

done_is : (s : State) (b : Option OpenBatch) (t : Ticket) (j : Job) → s.batch ≡ option_map batch_of b
    → counted s (others_of t s.flying) j (option_map batch_of (batch_after j b)) ≡ after_done j (landed t s)
done_is s b t job.DataFlush batch =
    ap (counted s (others_of t s.flying) job.DataFlush) (first_of b ∙ ap (option_map first_flushed) (sym batch))
done_is s b t job.RecordFlush batch =
    ap (counted s (others_of t s.flying) job.RecordFlush) (second_of b ∙ ap (option_map second_flushed) (sym batch))
done_is s b t other batch = ap (counted s (others_of t s.flying) other) (sym batch)

pub good_takes : (s : State) (d d' : Disk) (t : Ticket) (j : Job) (b : Option OpenBatch) (flying : List Flying)
    → IsKept s d → s.down ≡ None → s.batch ≡ option_map batch_of b → flying ≡ others_of t s.flying
    → option_map (λ (f : Flying). f.job) (flying_of t s.flying) ≡ Some j → Reaped d t.place true d'
    → Takes s d true (record s {
      log = meta_after j s.log;
      pending = contexts_after j s.pending;
      batch = option_map batch_of (batch_after j b);
      switching = switching_after j s.switching;
      flying = flying;
      events = s.events + 1;
    }) d'
good_takes s d d' t j b flying kept down batch left is ended =
    let out : EndedFor s t j = ended_for s d d' t true j kept ended is in
    record {
      ticket = t;
      ended = ended;
      after =
          ap (λ (l : List Flying). counted s l j (option_map batch_of (batch_after j b))) left
          ∙ done_is s b t j batch
          ∙ ap (λ (k : Job). after_done k (landed t s)) (sym out.its_job)
          ∙ sym (reaped_good s t out.out.flight down out.out.found);
    }

-- an end that isn't good is bad, and the other way round
pub is_bad : (ok : Bool) → not ok ≡ true → ok ≡ false
is_bad true e = absurd cc
is_bad false e = refl

pub is_good : (ok : Bool) → not ok ≡ false → ok ≡ true
is_good true e = refl
is_good false e = absurd cc

-- A call that leaves the kernel up found it up.
use Rattle.std.proofs.Common.{◌≡◌, ◌⊎◌, inl, inr, Bool, true, false, cond, Option, Some, None, is_some, sym, ap, subst, ◌∙◌}
use Rattle.flight_facts.proofs.Common.{Disk, Reaped, Waited, Ticket, Step}
use Rattle.store_steps.specs.declared.step.Step.TheVariants.{Reap}
use Rattle.store_steps.specs.Prelude.{State, after_good, flying_of, landed, down_by, Takes, Call, submitting, reading, stepping, Calls, DoesOrFails, Submits, Reads}
use Rattle.flight_facts.proofs.Ends.{good_end}
use Rattle.flight_facts.proofs.Readiness.{Readiness, while_up, while_down, ready_cases}

-- a bad end leaves it down
pub stays_down : (o : Option Ticket) (ticket : Ticket) → down_by o ticket ≡ None → ⊥
stays_down None ticket e = cc
stays_down (Some first) ticket e = cc

pub down_not_up : (s : State) (d : Disk) (s' : State) (d' : Disk) → Takes s d false s' d' → s'.down ≡ None → ⊥
down_not_up s d s' d' ended up = stays_down s.down ended.ticket (sym (ap (λ (t : State). t.down) ended.after) ∙ up)

-- while it is down only Reap is ready, and leaves it down
reap_up : (s : State) (d : Disk) (s' : State) (d' : Disk) → DoesOrFails Reap s d s' d' → s'.down ≡ None → s.down ≡ None
reap_up s d s' d' (inl (inl ended)) up = sym (ap (λ (t : State). t.down) ended.after ∙ (good_end ended.ticket s).down) ∙ up
reap_up s d s' d' (inl (inr none)) up = sym (ap (λ (t : State). t.down) none.1) ∙ up
reap_up s d s' d' (inr ended) up = absurd (down_not_up s d s' d' ended up)

pub was_up : (call : Call) (s : State) (d : Disk) (s' : State) (d' : Disk) → Calls call s d s' d' → s'.down ≡ None → s.down ≡ None
was_up (submitting client line change) s d s' d' made up = of_answer made.1
  where
    of_answer : Submits client line change s d s' → s.down ≡ None
    of_answer (inl accepts) = accepts.can_note.up
    of_answer (inr (inl refused)) = refused.1.can_note.up
    of_answer (inr (inr turned)) = sym (ap (λ (t : State). t.down) turned.same) ∙ up
was_up (reading client line read) s d s' d' made up = of_answer made.0
  where
    of_answer : Reads client line read s d s' → s.down ≡ None
    of_answer (inl (a, is)) = is.can_note.up
    of_answer (inr turned) = sym (ap (λ (t : State). t.down) turned.same) ∙ up
was_up (stepping step) s d s' d' made up = of_cases (ready_cases step d.depth s made.0)
  where
    of_cases : Readiness step d.depth s → s.down ≡ None
    of_cases (while_up down ready) = down
    of_cases (while_down down is) = reap_up s d s' d' (subst (λ (x : Step). DoesOrFails x s d s' d') is made.1) up

-- ---- a call that leaves the kernel down

-- the end of a submission, good or bad, is one event, and nothing else but that it is in flight no more
pub record Ends (s : State) (d : Disk) (s' : State) (d' : Disk) : Type 0 where
  pub ticket : Ticket
  pub ok : Bool
  pub down : Option Ticket
  pub ended : Reaped d ticket.place ok d'
  pub after : s' ≡ (let t : State = landed ticket s in record t { down = down })

abbrev pub bad_end : (s : State) (d : Disk) (s' : State) (d' : Disk) → Takes s d false s' d' → Ends s d s' d'
bad_end s d s' d' ended =
    record { ticket = ended.ticket; ok = false; down = down_by s.down ended.ticket; ended = ended.ended; after = ended.after }

-- once it is down a good one counts for nothing
abbrev pub late_end : (s : State) (d : Disk) (s' : State) (d' : Disk) → is_some s.down ≡ true → Takes s d true s' d' → Ends s d s' d'
late_end s d s' d' some ended = record {
  ticket = ended.ticket;
  ok = true;
  down = s.down;
  ended = ended.ended;
  after = ended.after
      ∙ ap (λ (b : Bool). cond b (landed ended.ticket s) (after_good (flying_of ended.ticket s.flying) (landed ended.ticket s))) some;
}

-- or nothing happens
pub record IsStill (s : State) (d : Disk) (s' : State) (d' : Disk) : Type 0 where
  pub state : s' ≡ s
  pub history : d'.history ≡ d.history

abbrev pub GoesDown : State → Disk → State → Disk → Type 0
GoesDown s d s' d' = Ends s d s' d' ⊎ IsStill s d s' d'

pub waited_history : (d d' : Disk) → Waited d d' → d'.history ≡ d.history
waited_history d d' (inl idle) = ap (λ (e : Disk). e.history) idle.1
waited_history d d' (inr busy) = ap (λ (e : Disk). e.history) busy.2

pub not_both : (o : Option Ticket) (first : Ticket) → o ≡ None → o ≡ Some first → ⊥
not_both o first none some = let e : None ≡ Some first = sym none ∙ some in cc

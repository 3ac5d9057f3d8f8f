-- Want of space comes only where a run's commands ask for more units than were free when it began.
use Rattle.std.proofs.Common.{◌≡◌, inl, inr, ℕ, ◌+◌, ◌<◌, ◌≤◌, Bool, true, false, List, [], ◌∷◌, ◌++◌}
use Rattle.std.proofs.Common.{refl, sym, ap, subst, ◌∙◌, arith}
use Rattle.run_facts.proofs.Common.{Disk, Entry, Answer, Command, Read, Change, width_of, PlansKeep}
use Rattle.std.specs.Prelude.{◌||◌}
use Rattle.object_model.specs.declared.command.Answer.TheVariants as answer
use Rattle.object_model.specs.declared.command.Command.TheVariants as ask
use Rattle.read_facts.specs.Prelude.{IsHeldAt, IsAnswerOf}
use Rattle.read_facts.proofs.Plain.{given_by_read}
use Rattle.plan_drafts.specs.Prelude.{most_units, AsksAreFew}
use Rattle.store_steps.specs.Prelude.{Call, submitting, reading, stepping, Calls, IsRun, State, free_count, IsCause, memory_of}
use Rattle.run_facts.specs.Prelude.{IsKept}
use Rattle.book_facts.specs.Prelude.{units_taken_at_most, units_asked, demanded_by, is_no_space, any_no_space}
use Rattle.run_facts.proofs.Prelude.{kept_call}
use Rattle.book_facts.proofs.Rooms.{KeepsSpace, call_space, taken_push, step_room}

-- ---- entries

demanded_push : (es : List Entry) (e : Entry) → demanded_by (es ++ e ∷ []) ≡ demanded_by es + units_asked e.command
demanded_push [] e = omega arith
demanded_push (x ∷ es) e = let rest = demanded_push es e in omega (arith, rest)

no_space_push : (es : List Entry) (e : Entry) → is_no_space e.answer ≡ false → any_no_space (es ++ e ∷ []) ≡ any_no_space es
no_space_push [] e is = ap (λ (b : Bool). b || false) is
no_space_push (x ∷ es) e is = ap (λ (b : Bool). is_no_space x.answer || b) (no_space_push es e is)

-- an entry takes no more than it asks for
entry_asks : (e : Entry) → units_taken_at_most (e ∷ []) ≤ units_asked e.command
entry_asks e = by e.command e.answer
  where
    by : (command : Command) (a : Answer)
        → units_taken_at_most (record { client = e.client; line = e.line; command = command; answer = a; acks = e.acks } ∷ []) ≤ units_asked command
    by (ask.Change change) answer.Accepted = omega arith
    by command a = omega arith

-- ---- each call

-- so many units were free when the run began
pub record IsWithin (free : ℕ) (s : State) : Type 0 where
  pub taken : free ≤ free_count s.space + units_taken_at_most s.book.entries
  pub asked : units_taken_at_most s.book.entries ≤ demanded_by s.book.entries
  pub want : any_no_space s.book.entries ≡ true → free < demanded_by s.book.entries

module _ (free : ℕ) (s s' : State) (within : IsWithin free s) (keeps : KeepsSpace s s') where
  -- one more entry: it wasn't refused for want of units, or it asked for more than were free
  entry_within : (e : Entry) → s'.book.entries ≡ s.book.entries ++ e ∷ []
      → (is_no_space e.answer ≡ true → free_count s.space < units_asked e.command) → IsWithin free s'
  entry_within e entries wants = record {
    taken = omega (arith, within.taken, keeps);
    asked = omega (arith, within.asked, ap units_taken_at_most entries, ap demanded_by entries, taken_push s.book.entries e, demanded_push s.book.entries e, entry_asks e);
    want = by (is_no_space e.answer) refl;
  }
    where
      by : (b : Bool) → is_no_space e.answer ≡ b → any_no_space s'.book.entries ≡ true → free < demanded_by s'.book.entries
      by true is any = omega (arith, wants is, within.taken, within.asked, ap demanded_by entries, demanded_push s.book.entries e)
      by false is any =
          let before : any_no_space s.book.entries ≡ true = sym (ap any_no_space entries ∙ no_space_push s.book.entries e is) ∙ any in
          omega (arith, within.want before, ap demanded_by entries, demanded_push s.book.entries e)

  -- no entry
  same_within : s'.book.entries ≡ s.book.entries → IsWithin free s'
  same_within entries = record {
    taken = omega (arith, within.taken, keeps);
    asked = omega (arith, within.asked, ap units_taken_at_most entries, ap demanded_by entries);
    want = λ any. let before = within.want (sym (ap any_no_space entries) ∙ any) in omega (arith, before, ap demanded_by entries);
  }

-- a cause of this kind tells both numbers
cause_wants : AsksAreFew → (change : Change) (s : State) (d : Disk) (a : Answer) → IsCause a change s d → is_no_space a ≡ true
    → free_count s.space < most_units change.ops
cause_wants asks change s d (answer.NoSpace need free) cause is =
    omega (arith, asks (width_of s.log.sup) change s.submitted need cause.1.0 cause.1.1, cause.2, cause.3)
cause_wants asks change s d (answer.Refused refusal) cause is = absurd cc
cause_wants asks change s d (answer.Csum unit kept found) cause is = absurd cc
cause_wants asks change s d (answer.MetaFull need room) cause is = absurd cc
cause_wants asks change s d a cause is = absurd cause

-- a read isn't answered so
read_wants : (d : Disk) (s : State) (read : Read) (a : Answer) → IsAnswerOf (width_of s.log.sup) (memory_of s) (IsHeldAt d) s.submitted read a
    → is_no_space a ≡ true → ⊥
read_wants d s read (answer.NoSpace need free) given is =
    given_by_read (width_of s.log.sup) (memory_of s) (IsHeldAt d) s.submitted read (answer.NoSpace need free) given
read_wants d s read a given is = cc

call_within : (free : ℕ) (call : Call) (s s' : State) (d d' : Disk) → PlansKeep → AsksAreFew → IsKept s d → Calls call s d s' d' → IsWithin free s
    → IsWithin free s'
call_within free (submitting client line change) s s' d d' plans asks kept made within =
    let keeps = call_space (submitting client line change) s s' d d' plans kept made in
    elim made.1 [
      | inl does ↦ entry_within free s s' within keeps
          (record { client = client; line = line; command = ask.Change change; answer = answer.Accepted; acks = s.acked })
          (ap (λ (z : State). z.book.entries) does.after) (λ is. absurd cc)
      | inr (inl refuses) ↦ entry_within free s s' within keeps
          (record { client = client; line = line; command = ask.Change change; answer = refuses.0; acks = s.acked })
          (ap (λ (z : State). z.book.entries) refuses.1.after) (cause_wants asks change s d refuses.0 refuses.1.cause)
      | inr (inr away) ↦ same_within free s s' within keeps (ap (λ (z : State). z.book.entries) away.same)
    ]
call_within free (reading client line read) s s' d d' plans asks kept made within =
    let keeps = call_space (reading client line read) s s' d d' plans kept made in
    elim made.0 [
      | inl is ↦ entry_within free s s' within keeps
          (record { client = client; line = line; command = ask.Read read; answer = is.0; acks = s.acked })
          (ap (λ (z : State). z.book.entries) is.1.after) (λ wants. absurd (read_wants d s read is.0 is.1.given wants))
      | inr away ↦ same_within free s s' within keeps (ap (λ (z : State). z.book.entries) away.same)
    ]
call_within free (stepping step) s s' d d' plans asks kept made within =
    let leaves = step_room s d s' d' step kept made.0 made.1 in
    same_within free s s' within (call_space (stepping step) s s' d d' plans kept made) leaves.entries

-- ---- runs

run_within : (free : ℕ) (calls : List Call) (s s' : State) (d d' : Disk) → PlansKeep → AsksAreFew → IsKept s d → IsRun s d calls s' d' → IsWithin free s
    → IsWithin free s'
run_within free [] s s' d d' plans asks kept run within = subst (IsWithin free) (sym run.0) within
run_within free (call ∷ calls) s s' d d' plans asks kept run within =
    let t : State = run.0 in
    let e : Disk = run.1.0 in
    run_within free calls t s' e d' plans asks (kept_call call s t d e plans kept run.1.1.0 run.1.1.1.0) run.1.1.1.1
    (call_within free call s t d e plans asks kept run.1.1.0 within)

none_within : (s : State) → s.book.entries ≡ [] → IsWithin (free_count s.space) s
none_within s empty = record {
  taken = omega arith;
  asked = omega (arith, ap units_taken_at_most empty, ap demanded_by empty);
  want = λ any. let none : any_no_space s.book.entries ≡ false = ap any_no_space empty in absurd cc;
}

pub want_is_beyond_the_demand : (calls : List Call) (s s' : State) (d d' : Disk) → PlansKeep → AsksAreFew → IsKept s d → s.book.entries ≡ []
    → IsRun s d calls s' d'
    → any_no_space s'.book.entries ≡ true → free_count s.space < demanded_by s'.book.entries
want_is_beyond_the_demand calls s s' d d' plans asks kept empty run =
    (run_within (free_count s.space) calls s s' d d' plans asks kept run (none_within s empty)).want

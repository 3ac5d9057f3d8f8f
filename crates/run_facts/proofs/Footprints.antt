-- The footprint of each call: by calls, and by steps.
use Rattle.std.proofs.Common.{◌≡◌, inl, inr, true, ℕ, List, [], ◌∷◌, ◌++◌, length, take, None, refl, sym, ap, subst, arith}
use Rattle.run_facts.proofs.Common.{option_map_or, Disk, Change, Command, Answer, Context, FreshUnit, Step, IsKnown}
use Rattle.object_model.specs.declared.command.Command.TheVariants as ask
use Rattle.object_model.specs.declared.command.Answer.TheVariants as answer
use Rattle.store_steps.specs.declared.step.Step.TheVariants as step
use Rattle.store_steps.specs.Prelude.{Batch, State, is_ready, entered, accepted_with, context_of, Accepts, Call, submitting, reading, stepping, Calls, DoesOrFails, TurnsAway, given_fresh, Intent, intent_of, intents, rows_part, data_part, nothing, Replies, refuses, reads, Footprint}
use Rattle.store_steps.specs.RowsGo as rows
use Rattle.store_steps.specs.DataGoes as units
use Rattle.store_steps.specs.HalfGoes as half
use Rattle.store_steps.specs.BookGoes as book
use Rattle.switch_facts.specs.OtherGoes as other
use Rattle.flight_facts.proofs.Prelude.{was_up, down_not_up}
use Rattle.run_facts.specs.Prelude.{IsKept}
use Rattle.run_facts.proofs.PartsKept.{book_alone}
use Rattle.run_facts.proofs.DataFootprint.{data_footprint}
use Rattle.run_facts.proofs.ReapFootprint.{reap_footprint}
use Rattle.run_facts.proofs.CommitFootprint.{commit_footprint}
use Rattle.run_facts.proofs.SwitchFootprints.{check_footprint, check_flush_footprint, slot_footprint, slot_flush_footprint, switch_footprint}
use Rattle.run_facts.proofs.BatchFootprints.{rests, take_footprint, flush_footprint, seal_footprint, record_footprint, sync_footprint, finish_footprint}

-- ---- a transaction is accepted

pub intents_push : (front xs : List Context) (x : Context) → intents (front ++ (xs ++ x ∷ [])) ≡ intents (front ++ xs) ++ intent_of x ∷ []
intents_push [] [] x = refl
intents_push [] (y ∷ xs) x = ap (λ (is : List Intent). intent_of y ∷ is) (intents_push [] xs x)
intents_push (y ∷ front) xs x = ap (λ (is : List Intent). intent_of y ∷ is) (intents_push front xs x)

pub given_push : (front xs : List Context) (x : Context) → take x.given x.fresh ≡ [] → given_fresh (front ++ (xs ++ x ∷ [])) ≡ given_fresh (front ++ xs)
given_push [] [] x none = ap (λ (fs : List FreshUnit). fs ++ []) none
given_push [] (y ∷ xs) x none = ap (λ (fs : List FreshUnit). take y.given y.fresh ++ fs) (given_push [] xs x none)
given_push (y ∷ front) xs x none = ap (λ (fs : List FreshUnit). take y.given y.fresh ++ fs) (given_push front xs x none)

accept_footprint : (client line : ℕ) (change : Change) (s : State) (d : Disk) (s' : State) (d' : Disk) → d' ≡ d → IsKnown change.ops
    → Accepts client line change s d s' → Footprint s d s' d'
accept_footprint client line change s d s' d' same known does =
    let x : Context = context_of (length s.book.entries) change s.log does.plan in
    let front : List Context = option_map_or (λ (b : Batch). b.contexts) s.batch [] in
    subst (λ (t : State). Footprint s d t d') (sym does.after) (record {
      touch = nothing;
      device = rests d d' same;
      placed = tt;
      counted = omega arith;
      rows = rows.joins (intent_of x) does.plan.new_blobs
          (ap (λ (is : List Intent). (let t : State = accepted_with client line change does.plan s in record (rows_part t) { intents = is }))
          (intents_push front s.pending x));
      units = units.same tt (ap (λ (fs : List FreshUnit). record (data_part s) { given = fs }) (given_push front s.pending x refl));
      half = half.same tt refl;
      other = other.same tt refl;
      book = book.enters (record { client = client; line = line; command = ask.Change change; answer = answer.Accepted; acks = s.acked }) refl;
      caused = record {
        client = client;
        line = line;
        change = change;
        known = known;
        accepts = subst (λ (t : State). Accepts client line change s d t) does.after does;
      };
    })

-- ---- an answer, or none

enter_footprint : (client line : ℕ) (command : Command) (a : Answer) (s : State) (d : Disk) (s' : State) (d' : Disk) → d' ≡ d
    → s' ≡ entered client line command a s → Replies s d s' → Footprint s d s' d'
enter_footprint client line command a s d s' d' same is replies = subst (λ (t : State). Footprint s d t d') (sym is)
    (book_alone s d (entered client line command a s) d' (rests d d' same) refl refl refl refl refl
    (book.enters (record { client = client; line = line; command = command; answer = a; acks = s.acked }) refl)
    (subst (λ (t : State). Replies s d t) is replies))

stay_footprint : (s : State) (d : Disk) (s' : State) (d' : Disk) → d' ≡ d → TurnsAway s s' → Footprint s d s' d'
stay_footprint s d s' d' same turned =
    subst (λ (t : State). Footprint s d t d') (sym turned.same) (book_alone s d s d' (rests d d' same) refl refl refl refl refl (book.same refl) tt)

-- ---- each call

step_footprint : (one : Step) (s : State) (d : Disk) (s' : State) (d' : Disk) → IsKept s d → s.down ≡ None → s'.down ≡ None
    → is_ready one d.depth s ≡ true → DoesOrFails one s d s' d' → Footprint s d s' d'
step_footprint step.Data s d s' d' kept was up ready does = data_footprint s d s' d' kept ready does
step_footprint step.Reap s d s' d' kept was up ready (inl does) = reap_footprint s d s' d' kept was does
step_footprint step.Reap s d s' d' kept was up ready (inr ended) = absurd (down_not_up s d s' d' ended up)
step_footprint step.Take s d s' d' kept was up ready does = take_footprint s d s' d' kept ready does
step_footprint step.Flush s d s' d' kept was up ready does = flush_footprint s d s' d' kept ready does
step_footprint step.Seal s d s' d' kept was up ready does = seal_footprint s d s' d' kept ready does
step_footprint step.Record s d s' d' kept was up ready does = record_footprint s d s' d' kept ready does
step_footprint step.Sync s d s' d' kept was up ready does = sync_footprint s d s' d' kept ready does
step_footprint step.Commit s d s' d' kept was up ready does = commit_footprint s d s' d' kept ready does
step_footprint step.Finish s d s' d' kept was up ready does = finish_footprint s d s' d' ready does
step_footprint step.CheckWrite s d s' d' kept was up ready does = check_footprint s d s' d' kept ready does
step_footprint step.CheckFlush s d s' d' kept was up ready does = check_flush_footprint s d s' d' kept ready does
step_footprint step.SlotWrite s d s' d' kept was up ready does = slot_footprint s d s' d' kept ready does
step_footprint step.SlotFlush s d s' d' kept was up ready does = slot_flush_footprint s d s' d' kept ready does
step_footprint step.Switch s d s' d' kept was up ready does = switch_footprint s d s' d' kept ready does

pub footprint_of : (call : Call) (s : State) (d : Disk) (s' : State) (d' : Disk) → IsKept s d → s'.down ≡ None → Calls call s d s' d' → Footprint s d s' d'
footprint_of (submitting client line change) s d s' d' kept up (may, does, same) = elim does [
  | inl accepts ↦ accept_footprint client line change s d s' d' same may accepts
  | inr (inl (a, is)) ↦ enter_footprint client line (ask.Change change) a s d s' d' same is.after (refuses client line change a is)
  | inr (inr turned) ↦ stay_footprint s d s' d' same turned
]
footprint_of (reading client line read) s d s' d' kept up (does, same) = elim does [
  | inl (a, is) ↦ enter_footprint client line (ask.Read read) a s d s' d' same is.after (reads client line read a is)
  | inr turned ↦ stay_footprint s d s' d' same turned
]
footprint_of (stepping one) s d s' d' kept up made =
    step_footprint one s d s' d' kept (was_up (stepping one) s d s' d' made up) up made.0 made.1

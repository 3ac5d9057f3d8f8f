-- What rows and units stand for once a transaction is accepted.
use Rattle.std.proofs.Common.{◌≡◌, ℕ, List, [], ◌∷◌, ◌++◌, length, sym, ap, subst, ◌∙◌, refl, append_assoc}
use Rattle.std.specs.List.{AllByRecursion}
use Rattle.std.specs.Option.{option_map_or}
use Rattle.block_device.specs.Prelude.{History}
use Rattle.object_model.specs.Prelude.{Objects, Change, replay}
use Rattle.object_model.specs.declared.book.Entry.{Entry}
use Rattle.object_model.specs.declared.command.Answer.TheVariants as answer
use Rattle.object_model.specs.declared.command.Command.TheVariants as ask
use Rattle.meta_rows.specs.Prelude.{Rows}
use Rattle.meta_log.specs.Prelude.{width_of, IsSuper}
use Rattle.plan_rows.specs.declared.plan.Plan.{Plan}
use Rattle.plan_rows.specs.Prelude.{HoldsRead, PlanMakes}
use Rattle.store_steps.specs.declared.context.Context.{Context}
use Rattle.store_steps.specs.Prelude.{Intent, intent_of, intents, CanJoin, Batch, State, context_of, accepted_with, applied_count, uncommitted, rows_part}
use Rattle.run_facts.specs.Prelude.{AreRowsKept}
use Rattle.run_facts.proofs.Prelude.{intents_both}
use Rattle.book_facts.specs.Prelude.{IsOfEntry, KnownOfBook, applied_changes, SelectionsStand}
use Rattle.book_facts.proofs.Prelude.{change_last, applied_entry}
use Rattle.crash_facts.specs.HeldBytes.{held_or_last}
use Rattle.crash_facts.specs.Store.{ContextsStand}
use Rattle.crash_facts.proofs.Joining.{one_more_stands}

-- the contexts under way are of the book
pub under_way_of : (opening : Objects) (s : State) → KnownOfBook opening s → AllByRecursion (IsOfEntry s.book.entries) (intents (uncommitted s))
under_way_of opening s book = subst (AllByRecursion (IsOfEntry s.book.entries))
    (sym (intents_both (option_map_or (λ (b : Batch). b.contexts) s.batch []) s.pending)) book.contexts

module _ (opening : Objects) (s : State) (client line : ℕ) (change : Change) (plan : Plan) (h : History) (limits : IsSuper s.log.sup)
    (kept : AreRowsKept (rows_part s)) (makes : PlanMakes s.log.sup change s.submitted plan)
    (can : CanJoin s.log.sup s.log.rows (intents (uncommitted s)) (intent_of (context_of (length s.book.entries) change s.log plan)))
    (read : HoldsRead (held_or_last h (intents (uncommitted s))) plan) (book : KnownOfBook opening s) (stand : ContextsStand opening s h) where
  abbrev es : List Entry
  es = s.book.entries

  abbrev xs : List Intent
  xs = intents (uncommitted s)

  abbrev entry : Entry
  entry = record { client = client; line = line; command = ask.Change change; answer = answer.Accepted; acks = s.acked }

  abbrev context : Context
  context = context_of (length es) change s.log plan

  abbrev one : Intent
  one = intent_of context

  of_one : IsOfEntry (es ++ entry ∷ []) one
  of_one = record { change = change; accepted = change_last es entry; same_names = refl }

  stand_now : SelectionsStand (width_of s.log.sup) (held_or_last h (xs ++ one ∷ [])) s.log.rows (xs ++ one ∷ [])
      (replay opening (applied_changes s)) (es ++ entry ∷ [])
  unfolding of_one
  stand_now = one_more_stands s.log.sup s.log.rows xs one limits kept.good kept.planned kept.apart kept.homes can h (replay opening (applied_changes s)) es entry
      (under_way_of opening s book) of_one plan.read plan.new_blobs (subst (λ (rows : Rows). PlanMakes s.log.sup change rows plan) kept.submitted makes) read stand

  -- the context is the last of those under way
  pushed : (let t : State = accepted_with client line change plan s in intents (uncommitted t) ≡ xs ++ one ∷ [])
  pushed =
      let batch : List Context = option_map_or (λ (b : Batch). b.contexts) s.batch [] in
      ap intents (sym (append_assoc batch s.pending (context ∷ []))) ∙ intents_both (batch ++ s.pending) (context ∷ [])

  pub accept_stand : ContextsStand opening (accepted_with client line change plan s) h
  accept_stand =
      subst (λ (ys : List Intent). SelectionsStand (width_of s.log.sup) (held_or_last h ys) s.log.rows ys
      (replay opening (let t : State = accepted_with client line change plan s in applied_changes t)) (es ++ entry ∷ [])) (sym pushed)
      (subst (λ (l : List Change). SelectionsStand (width_of s.log.sup) (held_or_last h (xs ++ one ∷ [])) s.log.rows (xs ++ one ∷ [])
      (replay opening l) (es ++ entry ∷ [])) (sym (applied_entry es entry s.book.commits (applied_count s) book.commits.of_accepted)) stand_now)

-- Want of room in the log comes only where more is needed than there was room for at the mount.
use Rattle.std.proofs.Common.{◌≡◌, inl, inr, ℕ, ◌+◌, ◌<◌, ◌≤◌, List, [], ◌∷◌, ◌++◌, refl, sym, ap, subst, ◌∙◌, arith}
use Rattle.block_device.specs.Prelude.{Disk}
use Rattle.object_model.specs.declared.book.Entry.{Entry}
use Rattle.object_model.specs.declared.command.Answer.{Answer}
use Rattle.object_model.specs.declared.command.Answer.TheVariants as answer
use Rattle.object_model.specs.declared.command.Command.TheVariants as ask
use Rattle.object_model.specs.declared.command.Read.{Read}
use Rattle.object_model.specs.Prelude.{Change}
use Rattle.meta_log.specs.Prelude.{width_of}
use Rattle.meta_store.specs.Store.{room_of}
use Rattle.plan_proofs.proofs.PlanLaws.{plans_keep}
use Rattle.read_facts.specs.Prelude.{IsHeldAt, IsAnswerOf}
use Rattle.read_facts.proofs.Plain.{IsOfRead, given_by_read}
use Rattle.store_steps.specs.Prelude.{State, Call, submitting, reading, stepping, Refuses, memory_of}
use Rattle.run_facts.specs.Prelude.{IsKept}
use Rattle.run_facts.proofs.Prelude.{kept_call}
use Rattle.book_facts.proofs.Prelude.{step_room, run_room}
use Rattle.client_runs.specs.Prelude.{Position, Draws, IsDrawnRun}
use Rattle.bstore_top.specs.Room.{need_of_call, FullOnlyBeyond, EachFullOnlyBeyond}

-- ---- the entry that a call adds

same_last : {A : Type 0} (xs : List A) (x w : A) → xs ++ x ∷ [] ≡ xs ++ w ∷ [] → w ≡ x
same_last [] x w e = cc
same_last (y ∷ ys) x w e = same_last ys x w cc

none_added : {A : Type 0} (xs : List A) (x : A) → xs ≡ xs ++ x ∷ [] → ⊥
none_added [] x e = cc
none_added (y ∷ ys) x e = none_added ys x cc

-- a read isn't answered with want of room
read_not_full : (e : Disk) (t : State) (read : Read) (a : Answer) (need left : ℕ)
    → IsAnswerOf (width_of t.log.sup) (memory_of t) (IsHeldAt e) t.submitted read a → a ≡ answer.MetaFull need left → ⊥
read_not_full e t read a need left given is = subst IsOfRead is (given_by_read (width_of t.log.sup) (memory_of t) (IsHeldAt e) t.submitted read a given)

-- ---- a call

module _ (room needed : ℕ) (p q : Position) (kept : IsKept p.state p.disk) (before : room ≤ room_of p.state.log + needed) where
  -- whose entry tells of want of room
  module _ (e : Entry) (need left : ℕ) (added : q.state.book.entries ≡ p.state.book.entries ++ e ∷ []) (full : e.answer ≡ answer.MetaFull need left) where
    own_full : (own : Entry) → q.state.book.entries ≡ p.state.book.entries ++ own ∷ [] → own.answer ≡ answer.MetaFull need left
    own_full own entries = ap (λ (x : Entry). x.answer) (same_last p.state.book.entries e own (sym added ∙ entries)) ∙ full

    none_here : q.state.book.entries ≡ p.state.book.entries → ⊥
    none_here same = none_added p.state.book.entries e (sym same ∙ added)

    refused_full : (client line : ℕ) (change : Change) (a : Answer) → Refuses client line change a p.state p.disk q.state → room < needed + need
    refused_full client line change a refuses =
        let own : Entry = record { client = client; line = line; command = ask.Change change; answer = a; acks = p.state.acked } in
        let is : a ≡ answer.MetaFull need left = own_full own (ap (λ (z : State). z.book.entries) refuses.after) in
        let refuses_so : Refuses client line change (answer.MetaFull need left) p.state p.disk q.state =
        subst (λ (b : Answer). Refuses client line change b p.state p.disk q.state) is refuses in
        let told = refuses_so.cause.2 in
        let less = refuses_so.cause.3 in
        omega (arith, before, told, less)

  call_full : (call : Call) → Draws p call q → FullOnlyBeyond room needed p q
  call_full (submitting client line change) draws = λ e need left added full.
      elim draws.called.1 [
        | inl does ↦ (
            let own : Entry = record { client = client; line = line; command = ask.Change change; answer = answer.Accepted; acks = p.state.acked } in
            let is : answer.Accepted ≡ answer.MetaFull need left = own_full e need left added full own (ap (λ (z : State). z.book.entries) does.after) in
            absurd cc)
        | inr (inl refuses) ↦ refused_full e need left added full client line change refuses.0 refuses.1
        | inr (inr away) ↦ absurd (none_here e need left added full (ap (λ (z : State). z.book.entries) away.same))
      ]
  call_full (reading client line read) draws = λ e need left added full.
      elim draws.called.0 [
        | inl is ↦ (
            let own : Entry = record { client = client; line = line; command = ask.Read read; answer = is.0; acks = p.state.acked } in
            absurd (read_not_full p.disk p.state read is.0 need left is.1.given
            (own_full e need left added full own (ap (λ (z : State). z.book.entries) is.1.after))))
        | inr away ↦ absurd (none_here e need left added full (ap (λ (z : State). z.book.entries) away.same))
      ]
  call_full (stepping step) draws = λ e need left added full.
      absurd (none_here e need left added full (step_room p.state p.disk q.state q.disk step kept draws.called.0 draws.called.1).entries)

-- an accepted transaction takes the room that it needs, and no other call takes any
call_room : (call : Call) (p q : Position) (draws : Draws p call q) → IsKept p.state p.disk
    → room_of p.state.log ≤ room_of q.state.log + need_of_call call p q draws
call_room (submitting client line change) p q draws kept =
    let one : room_of p.state.log ≤ room_of q.state.log + (need_of_call (submitting client line change) p q draws + 0) =
    run_room (submitting client line change ∷ []) p.state q.state p.disk q.disk plans_keep kept
    (q.state, (q.disk, (draws.called, (draws.sound, (refl, refl))))) in
    omega (arith, one)
call_room (reading client line read) p q draws kept =
    run_room (reading client line read ∷ []) p.state q.state p.disk q.disk plans_keep kept
    (q.state, (q.disk, (draws.called, (draws.sound, (refl, refl)))))
call_room (stepping step) p q draws kept =
    run_room (stepping step ∷ []) p.state q.state p.disk q.disk plans_keep kept (q.state, (q.disk, (draws.called, (draws.sound, (refl, refl)))))

-- ---- a run

each_full : (room needed : ℕ) (p : Position) (calls : List Call) (q : Position) (run : IsDrawnRun p calls q) → IsKept p.state p.disk
    → room ≤ room_of p.state.log + needed → EachFullOnlyBeyond room needed p calls q run
each_full room needed p [] q run kept before = tt
each_full room needed p (call ∷ calls) q run kept before =
    let r : Position = run.0 in
    let draws : Draws p call r = run.1.0 in
    let here = call_room call p r draws kept in (
      call_full room needed p r kept before call draws,
      each_full room (needed + need_of_call call p r draws) r calls q run.1.1
          (kept_call call p.state r.state p.disk r.disk plans_keep kept draws.called draws.sound) (omega (arith, before, here)),
    )

pub run_full : (p : Position) (calls : List Call) (q : Position) (run : IsDrawnRun p calls q) → IsKept p.state p.disk
    → EachFullOnlyBeyond (room_of p.state.log) 0 p calls q run
run_full p calls q run kept = each_full (room_of p.state.log) 0 p calls q run kept (omega arith)

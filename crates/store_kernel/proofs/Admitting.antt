-- What preparing and accepting a transaction is, in the words of the kernel's state.
use Rattle.std.proofs.Common.{◌≡◌, None, Some, Ok, Err, ℕ, ◌+◌, ◌<◌, ◌≤◌, ◌^◌, List, [], ◌∷◌, ◌++◌, length, map, Contains, Option, refl, sym, subst, arith}
use Rattle.std.specs.Prelude.{Result, IsErr, IsErrAnd, IfErr}
use Rattle.std.specs.List.{AllByRecursion}
use Rattle.block_device.specs.Prelude.{Disk}
use Rattle.block_device.specs.declared.device.Ticket.{Ticket}
use Rattle.object_model.specs.Prelude.{Change, names_of}
use Rattle.object_model.specs.declared.book.Commit.{Commit}
use Rattle.object_model.specs.declared.book.Entry.{Entry}
use Rattle.object_model.specs.declared.command.Command.TheVariants as ask
use Rattle.object_model.specs.declared.command.Answer.TheVariants as answer
use Rattle.meta_rows.specs.Prelude.{Rows, rows_after, rows_size, ops_bytes}
use Rattle.meta_log.specs.Prelude.{width_of}
use Rattle.meta_store.specs.Store as meta
use Rattle.unit_allocator.specs.Prelude.{Space, free_units, taken}
use Rattle.unit_allocator.proofs.FreeUnits.{listed_is_free}
use Rattle.plan_rows.specs.declared.plan.FreshUnit.{FreshUnit}
use Rattle.plan_rows.specs.declared.plan.Plan.{Plan}
use Rattle.plan_rows.specs.declared.plan.ReadUnit.{ReadUnit}
use Rattle.plan_drafts.specs.Prelude.{IsKnown, fresh_units, PlanKeeps, PlanTakes}
use Rattle.plan_proofs.proofs.PlanLaws.{plans_keep, plans_short}
use Rattle.store_steps.specs.declared.context.Context.{Context}
use Rattle.store_steps.specs.declared.flight.Flying.{Flying}
use Rattle.store_steps.specs.declared.flight.Switching.{Switching}
use Rattle.store_steps.specs.Prelude.{State, CanNote, Accepts, accepted_with, need_of, memory_of, IsReadNow}
use Rattle.run_facts.specs.Prelude.{IsKept}
use Rattle.run_facts.proofs.Prelude.{kept_submitted, kept_above, kept_free, submitted_short, fresh_not_in_memory}
use Rattle.object_rows.specs.Stores.{AreRowsOfAStore, AreRowsOfWidth}
use Rattle.read_facts.specs.Prelude.{IsHeldAt, AreGoodUnits}
use Rattle.page_sources.specs.Prelude.{HasPlaceToRead, IsPlacesFail}
use Rattle.page_sources.specs.declared.parts.PartFail.{PartFail}
use Rattle.page_sources.specs.declared.parts.PartFail.TheVariants as part
use Rattle.txn_planner.specs.declared.drafts.TxnDraft.{TxnDraft}
use Rattle.txn_planner.specs.declared.fails.PlanFail.{PlanFail}
use Rattle.txn_planner.specs.declared.fails.PlanFail.TheVariants as fail
use Rattle.txn_planner.specs.Drafts.{places_in, IsDraftFor}
use Rattle.txn_planner.specs.PlanFails.{IsPlanFor, IsPlanFail}
use Rattle.store_kernel.specs.declared.batch.OpenBatch.{OpenBatch}
use Rattle.store_kernel.specs.declared.prepared.PreparedTxn.{PreparedTxn}
use Rattle.txn_states.specs.States.{prepared_context}
use Rattle.waiting_contexts.specs.Places.{IsAboveAll, context_at}
use Rattle.waiting_contexts.proofs.TiedLemmas.{found_last, not_lost}
use Rattle.store_kernel.proofs.Sending.{few_between}
use Rattle.store_image.specs.Prelude.{PageUnit, IsDataUnit}
use Rattle.store_kernel.specs.Prepared.{IsPlanOf, IsPrepared}
use Rattle.store_kernel.specs.Submitting.{cause_of_plan, cause_of_read, IsCauseOf}
use Rattle.store_kernel.specs.declared.refused.Cause.{Cause}
use Rattle.store_kernel.specs.Seen.{state_of}
use Rattle.store_kernel.specs.Units.{CanBeTaken}

-- ---- preparing

-- no submitted row is bad
pub rows_of_a_store : (s : State) (d : Disk) → IsKept s d → s.down ≡ None → AreRowsOfAStore s.submitted
rows_of_a_store s d kept up = record { sup = s.log.sup; limits = kept.always.limits; good = (kept_submitted s d kept up).good }

pub rows_of_width : (s : State) (d : Disk) → IsKept s d → CanNote s → AreRowsOfWidth (width_of s.log.sup) s.submitted
rows_of_width s d kept can = record { store = rows_of_a_store s d kept can.up; wide = refl }

-- what planning gives is a plan of the submitted rows, over the old bytes that were read of its places
pub given : (s : State) (d : Disk) (change : Change) (plan : Plan) (memory : ℕ → Option (List ℕ)) (places : List PageUnit) (read : List ReadUnit)
    → IsKept s d → CanNote s → memory ≡ memory_of s → IsPlanFor (width_of s.log.sup) change s.submitted s.space places plan → plan.read ≡ read
    → AreGoodUnits memory (IsHeldAt d) places (map (λ r. r.bytes) read) → IsPlanOf change s d plan
given s d change plan memory places read kept can same is read_is good =
    let both = is.plans s.log.sup s.next_sbid refl (kept_free s d kept can.up) kept.always.sbids in
    record {
      not_refused = is.not_refused;
      plans = both.0;
      read = subst (λ (ps : List PageUnit). IsReadNow s d ps plan) both.1
          (subst (λ (rs : List ReadUnit). AreGoodUnits (memory_of s) (IsHeldAt d) places (map (λ r. r.bytes) rs)) (sym read_is)
          (subst (λ (m : ℕ → Option (List ℕ)). AreGoodUnits m (IsHeldAt d) places (map (λ r. r.bytes) read)) same good));
    }

-- why there is none: it is refused, units are wanting, or memory is
pub no_draft : (s : State) (d : Disk) (change : Change) (why : PlanFail) → IsPlanFail (width_of s.log.sup) change s.submitted s.space why
    → IsCauseOf (cause_of_plan why) change s d
no_draft s d change (fail.Refusal refusal) fails = fails
no_draft s d change (fail.NoSpace need free) fails = fails
no_draft s d change fail.Memory fails = tt

-- why old bytes weren't read
pub not_read : (s : State) (d : Disk) (change : Change) (memory : ℕ → Option (List ℕ)) (draft : TxnDraft) (why : PartFail) → memory ≡ memory_of s
    → IsDraftFor (width_of s.log.sup) change s.submitted s.space draft → IsPlacesFail memory d (places_in draft) why
    → IsCauseOf (cause_of_read why) change s d
not_read s d change memory draft (part.BadPage bad) same is fails = record {
  not_refused = is.not_refused;
  need = draft.planning.taken;
  places = places_in draft;
  asks = is.asks;
  enough = is.enough;
  first_bad = subst (λ (m : ℕ → Option (List ℕ)). IsPlacesFail m d (places_in draft) (part.BadPage bad)) same fails;
}
not_read s d change memory draft part.Fault same is fails = record {
  not_refused = is.not_refused;
  need = draft.planning.taken;
  places = places_in draft;
  asks = is.asks;
  enough = is.enough;
  to_read = subst (λ (m : ℕ → Option (List ℕ)). HasPlaceToRead m (places_in draft)) same fails;
}
not_read s d change memory draft part.Memory same is fails = tt

-- a cause that is handed on
pub handed_on : {T : Type 0} (P : Cause → Type 0) (result : Result T Cause) (why : Cause) → IsErr result × IsErrAnd result (λ e. e ≡ why) → P why
    → IfErr result P
handed_on P (Ok x) why is holds = tt
handed_on P (Err e) why is holds = subst P (sym is.1) holds

-- what is known of each plan: its operations have spellings, and its units ascend
pub planned_keeps : (s : State) (d : Disk) (change : Change) (plan : Plan) → IsKept s d → CanNote s → IsKnown change.ops
    → IsPlanOf change s d plan → PlanKeeps s.log.sup (names_of change) s.submitted plan
planned_keeps s d change plan kept can known is =
    (plans_keep s.log.sup s.submitted s.space s.next_sbid change plan (kept_submitted s d kept can.up) (kept_free s d kept can.up)
    (kept_above s d kept can.up) known is.plans).0

-- and they are short enough for a record
pub planned_short : (s : State) (d : Disk) (change : Change) (plan : Plan) → IsKept s d → CanNote s → IsPlanOf change s d plan
    → length (ops_bytes plan.ops) < 2 ^ 43
planned_short s d change plan kept can is = within (length (ops_bytes plan.ops)) (rows_size s.submitted)
    (plans_short s.log.sup s.submitted s.space s.next_sbid change plan (kept_submitted s d kept can.up) (kept_free s d kept can.up) is.plans)
    (submitted_short s d kept can.up)
  where
    within : (bytes rows : ℕ) → bytes ≤ 2 ^ 40 + rows → rows ≤ 2 ^ 28 → bytes < 2 ^ 43
    within bytes rows le few = omega (arith, le, few)

-- a record that fits into the room that was counted fits into the log
pub enough : (m : meta.Meta) (plan : Plan) (need room : ℕ) → need ≡ need_of m plan → room ≡ meta.room_of m → need ≤ room
    → need_of m plan ≤ meta.room_of m
enough m plan need room is_need is_room fits = rw (← is_need) (omega (arith, is_room, fits))

-- the place of the next entry is above those of all that wait
pub above_all : (s : State) (d : Disk) (place : ℕ) → IsKept s d → CanNote s → place ≡ length s.book.entries → IsAboveAll place s.pending
above_all s d place kept can is = subst (λ (n : ℕ). IsAboveAll n s.pending) (sym is) (kept.up can.up).flights.places.below

-- the context that was added is found at its place
pub found_added : (s : State) (d : Disk) (pending' : List Context) (x y : Context) (place : ℕ) → IsKept s d → CanNote s → place ≡ length s.book.entries
    → place ≡ x.place → pending' ≡ s.pending ++ x ∷ [] → Some y ≡ context_at place pending' → y ≡ x
found_added s d pending' x y place kept can is same grown found =
    found_last s.pending pending' x y place (subst (λ (n : ℕ). IsAboveAll n s.pending) same (above_all s d place kept can is)) same grown found

pub added_is_found : (s : State) (d : Disk) (pending' : List Context) (x : Context) (place : ℕ) → IsKept s d → CanNote s → place ≡ length s.book.entries
    → place ≡ x.place → pending' ≡ s.pending ++ x ∷ [] → None ≡ context_at place pending' → ⊥
added_is_found s d pending' x place kept can is same grown none =
    not_lost s.pending pending' x place (subst (λ (n : ℕ). IsAboveAll n s.pending) same (above_all s d place kept can is)) same grown none

-- ---- accepting

free_units_are : (space : Space) (us : List ℕ) → AllByRecursion (λ u. Contains (free_units space) u) us → CanBeTaken us space
free_units_are space [] all = tt
free_units_are space (u ∷ us) all =
    let one = listed_is_free space u all.0 in (record { within = one.within; free = one.free }, free_units_are space us all.1)

-- the units that a plan takes are free
pub fresh_is_free : (s : State) (d : Disk) (change : Change) (plan : Plan) → IsKept s d → CanNote s → IsKnown change.ops → IsPlanOf change s d plan
    → CanBeTaken (fresh_units plan) s.space
fresh_is_free s d change plan kept can known is =
    let takes : PlanTakes s.space s.next_sbid change s.submitted plan =
    (plans_keep s.log.sup s.submitted s.space s.next_sbid change plan (kept_submitted s d kept can.up) (kept_free s d kept can.up)
    (kept_above s d kept can.up) known is.plans).1.1 in
    free_units_are s.space (fresh_units plan) takes.free

-- they are few
pub fresh_are_few : (s : State) (d : Disk) (change : Change) (plan : Plan) → IsKept s d → CanNote s → IsKnown change.ops → IsPlanOf change s d plan
    → length plan.fresh < 2 ^ 32
fresh_are_few s d change plan kept can known is =
    let keeps : PlanKeeps s.log.sup (names_of change) s.submitted plan = planned_keeps s d change plan kept can known is in
    few (length plan.fresh) s.log.sup.units (few_between 0 s.log.sup.units plan.fresh (omega arith) (low plan.fresh) (below plan.fresh keeps.fresh.on_data) keeps.ascend)
    kept.always.limits.units_most
  where
    few : (n units : ℕ) → 0 + n ≤ units → units ≤ 1048576 → n < 2 ^ 32
    few n units within most = omega (arith, within, most)

    low : (fs : List FreshUnit) → AllByRecursion (λ f. 0 ≤ f.unit) fs
    low [] = tt
    low (f ∷ fs) = (omega arith, low fs)

    below : (fs : List FreshUnit) → AllByRecursion (λ f. IsDataUnit s.log.sup f.unit) fs → AllByRecursion (λ f. f.unit < s.log.sup.units) fs
    below [] all = tt
    below (f ∷ fs) all = (all.0.1, below fs all.1)

-- and none of them is in memory
pub fresh_absent : (s : State) (d : Disk) (change : Change) (plan : Plan) (memory : ℕ → Option (List ℕ)) → IsKept s d → CanNote s
    → IsKnown change.ops → IsPlanOf change s d plan → memory ≡ memory_of s → AllByRecursion (λ f. memory f.unit ≡ None) plan.fresh
fresh_absent s d change plan memory kept can known is same =
    let takes : PlanTakes s.space s.next_sbid change s.submitted plan =
    (plans_keep s.log.sup s.submitted s.space s.next_sbid change plan (kept_submitted s d kept can.up) (kept_free s d kept can.up)
    (kept_above s d kept can.up) known is.plans).1.1 in
    subst (λ (m : ℕ → Option (List ℕ)). AllByRecursion (λ f. m f.unit ≡ None) plan.fresh) (sym same)
    (fresh_not_in_memory s d kept can.up plan.fresh takes.free)

module _ (m : meta.Meta) (submitted : Rows) (pending : List Context) (batch : Option OpenBatch) (switching : Option Switching) (flying : List Flying)
    (down : Option Ticket) (events : ℕ) (space : Space) (entries : List Entry) (commits : List Commit) (acked next : ℕ) where
  -- the state of these parts
  abbrev before : State
  before = state_of m submitted pending batch switching flying down events space entries commits acked next

  module _ (client line : ℕ) (change : Change) (ready : PreparedTxn) (d : Disk)
      (m' : meta.Meta) (submitted' : Rows) (pending' : List Context) (x : Context) (place : ℕ) (space' : Space) (entries' : List Entry)
      (can : CanNote before) (prepared : IsPrepared ready change before d)
      (is_meta : let after : meta.Meta = record m { reserved = m.reserved + ready.need } in m' ≡ after)
      (is_submitted : submitted' ≡ rows_after submitted ready.copy) (is_pending : pending' ≡ pending ++ x ∷ [])
      (is_context : x ≡ prepared_context place ready.coll ready.plan ready.need) (is_place : place ≡ length entries)
      (is_space : space' ≡ taken space (map (λ (f : FreshUnit). f.unit) x.fresh))
      (next' : ℕ) (is_next : next' ≡ next + ready.plan.new_blobs)
      (is_entries : entries' ≡ entries ++ record { client = client; line = line; command = ask.Change change; answer = answer.Accepted; acks = acked } ∷ []) where
    -- the kernel's parts after it was accepted
    abbrev after_it : State
    after_it = state_of m' submitted' pending' batch switching flying down events space' entries' commits acked next'

    pub accepted_state : after_it ≡ accepted_with client line change ready.plan before
    accepted_state =
        rw (is_meta, is_submitted, is_pending, is_space, is_context, is_place, is_next, is_entries, prepared.copy, prepared.coll, prepared.need) refl

    pub accepted : Accepts client line change before d after_it
    accepted = record {
      can_note = can;
      not_refused = prepared.plan.not_refused;
      plan = ready.plan;
      plans = prepared.plan.plans;
      read = prepared.plan.read;
      fits = prepared.fits;
      after = accepted_state;
    }

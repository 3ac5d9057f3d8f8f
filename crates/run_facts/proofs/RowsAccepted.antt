-- A transaction that is accepted has a plan over the submitted rows, by which it joins those under way.
use Rattle.std.proofs.Common.{ℕ, ◌+◌, ◌<◌, ◌≤◌, List, [], length, sym, subst, arith}
use Rattle.unit_fields.specs.declared.width.Width.{Width}
use Rattle.run_facts.proofs.Common.{Disk, IsSuper, width_of, Super, Change, names_of, IsKnown, IsGood, PlansKeep}
use Rattle.meta_rows.specs.Prelude.{Rows, rows_after}
use Rattle.plan_rows.specs.declared.plan.Plan.{Plan}
use Rattle.plan_drafts.specs.Prelude.{AreFreeOver, IsAboveBlobs, MakesBlob, Suits, OwnsItsUnits, PlanKeeps, PlanMakes, PlanTakes}
use Rattle.selections.proofs.Selecting.{fair_all}
use Rattle.store_steps.specs.Prelude.{State, context_of, Accepts, Intent, intent_of, intents, is_in, rows_by, CanJoin, uncommitted, rows_part}
use Rattle.space_facts.proofs.Prelude.{above_after, selection_good, free_over, free_joins}
use Rattle.flight_facts.specs.Prelude.{FitsRecord}
use Rattle.flight_facts.proofs.Prelude.{same_units}
use Rattle.run_facts.specs.Prelude.{IsSpaceOf, AreRowsKept}
use Rattle.run_facts.proofs.SpaceUnits.{within_data}

-- ---- what a plan keeps hangs on none of the old bytes that were read for it

unread_suits : (w : Width) (names : List (List ℕ)) (view : Rows) (plan : Plan) (rows : Rows) → Suits w names view (record plan { read = []; new_blobs = 0 }) rows
    → Suits w names view plan rows
unread_suits w names view plan rows suits = record { agree = suits.agree; blobs = suits.blobs; unmarked = suits.unmarked }

unread_owns : (w : Width) (before after : Rows) (plan : Plan) → OwnsItsUnits w before after plan
    → OwnsItsUnits w before after (record plan { read = []; new_blobs = 0 })
unread_owns w before after plan owns =
    record { new = owns.new; left = owns.left; taken = owns.taken; was = owns.was; gone = owns.gone; once = owns.once }

unread_keeps : (s : Super) (names : List (List ℕ)) (view : Rows) (plan : Plan) → PlanKeeps s names view plan
    → PlanKeeps s names view (record plan { read = []; new_blobs = 0 })
unread_keeps s names view plan keeps = record {
  of = keeps.of;
  fit = keeps.fit;
  fresh = keeps.fresh;
  ascend = keeps.ascend;
  good = λ rows suits. keeps.good rows (unread_suits (width_of s) names view plan rows suits);
  exact = λ rows suits. keeps.exact rows (unread_suits (width_of s) names view plan rows suits);
  home = λ home rows suits. keeps.home home rows (unread_suits (width_of s) names view plan rows suits);
  owns = λ rows suits is. unread_owns (width_of s) rows (rows_after rows plan.ops) plan
      (keeps.owns rows (unread_suits (width_of s) names view plan rows suits) is);
}

-- ---- the submitted rows, and the free units over them

module _ (s : State) (limits : IsSuper s.log.sup) (space : IsSpaceOf s.log.sup s.space) (kept : AreRowsKept (rows_part s)) where
  abbrev xs : List Intent
  xs = intents (uncommitted s)

  pub submitted_good : IsGood s.log.sup s.submitted
  submitted_good =
      subst (IsGood s.log.sup) (sym kept.submitted) (selection_good s.log.sup s.log.rows xs kept.good kept.planned xs (fair_all is_in xs))

  pub submitted_free : AreFreeOver s.log.sup s.submitted s.space
  submitted_free = subst (λ rows. AreFreeOver s.log.sup rows s.space) (sym kept.submitted)
      (free_over s.log.sup s.log.rows xs s.space limits kept.good kept.planned kept.apart (λ u w. within_data s.log.sup s.space u space w) kept.counted)

  pub submitted_above : IsAboveBlobs s.next_sbid s.submitted
  submitted_above = subst (IsAboveBlobs s.next_sbid) (sym kept.submitted) (above_after s.next_sbid s.log.rows xs kept.blobs)

-- ---- the plan of an accepted transaction

module _ (keep : PlansKeep) (s : State) (d : Disk) (client line : ℕ) (change : Change) (s' : State) (limits : IsSuper s.log.sup)
    (space : IsSpaceOf s.log.sup s.space) (kept : AreRowsKept (rows_part s)) (known : IsKnown change.ops) (does : Accepts client line change s d s') where
  plans : PlanKeeps s.log.sup (names_of change) s.submitted does.plan
      × (PlanMakes s.log.sup change s.submitted does.plan × PlanTakes s.space s.next_sbid change s.submitted does.plan)
  plans = keep s.log.sup s.submitted s.space s.next_sbid change does.plan (submitted_good s limits space kept) (submitted_free s limits space kept)
      (submitted_above s limits space kept) known does.plans

  pub accepted_keeps : PlanKeeps s.log.sup (names_of change) s.submitted does.plan
  accepted_keeps = plans.0

  pub accepted_makes : PlanMakes s.log.sup change s.submitted does.plan
  accepted_makes = plans.1.0

  pub accepted_takes : PlanTakes s.space s.next_sbid change s.submitted does.plan
  accepted_takes = plans.1.1

  -- the blobs that it makes have the next numbers
  pub accepted_numbers : (sbid : ℕ) → MakesBlob (rows_by s.log.rows (intents (uncommitted s))) does.plan.ops sbid
      → (s.next_sbid ≤ sbid) × (sbid < s.next_sbid + does.plan.new_blobs)
  accepted_numbers sbid made = accepted_takes.numbers sbid (subst (λ rows. MakesBlob rows does.plan.ops sbid) (sym kept.submitted) made)

  pub accepted_joins : CanJoin s.log.sup s.log.rows (intents (uncommitted s)) (intent_of (context_of (length s.book.entries) change s.log does.plan))
  accepted_joins = free_joins s.log.sup s.next_sbid s.log.rows (intents (uncommitted s)) (intent_of (context_of (length s.book.entries) change s.log does.plan)) s.space
      kept.counted kept.blobs (subst (λ rows. PlanKeeps s.log.sup (names_of change) rows (record does.plan { read = []; new_blobs = 0 })) kept.submitted
      (unread_keeps s.log.sup (names_of change) s.submitted does.plan accepted_keeps)) accepted_takes.free
      (λ sbid made. (accepted_numbers sbid made).0)

  -- its context has room for its record
  pub accepted_record : FitsRecord (intent_of (context_of (length s.book.entries) change s.log does.plan))
  accepted_record = record {
    fit = accepted_keeps.fit;
    need = λ number. same_units number s.log.number does.plan.ops;
    whole = accepted_keeps.fresh.whole;
    ascend = accepted_keeps.ascend;
  }

  pub accepted_few : length does.plan.fresh ≤ 1048576
  accepted_few = omega (arith, accepted_takes.within, accepted_takes.few)

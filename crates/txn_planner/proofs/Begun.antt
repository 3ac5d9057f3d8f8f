-- What is known of a draft once all operations are planned, and of a transaction that is refused.
use Rattle.std.proofs.Common.{◌≡◌, ℕ, ◌≤◌, arith, true, false, List, length, take, Option, Result, Ok, Err, refl, sym, ap, subst, ◌∙◌}
use Rattle.std.specs.Prelude.{not, IsTrue, is_ok}
use Rattle.object_model.specs.Prelude.{Objects, Change, is_too_large, accepted_if, is_refused, submitted_effect}
use Rattle.object_model.specs.declared.command.Command.TheVariants as ask
use Rattle.object_model.specs.declared.op.Refusal.{Refusal}
use Rattle.object_model.specs.declared.op.Refusal.TheVariants.{TooBig}
use Rattle.meta_rows.specs.Prelude.{Rows}
use Rattle.meta_log.specs.Prelude.{width_of}
use Rattle.unit_fields.specs.Prelude.{IsCollName}
use Rattle.unit_fields.specs.declared.width.Width.{Width}
use Rattle.read_facts.specs.Prelude.{IsRefusedBy, IsNotRefused}
use Rattle.plan_drafts.specs.Prelude.{Layout, HasLayout, IsKnown, AreTaken, AreRefused, AsksFor, with_ops, places_of}
use Rattle.object_rows.specs.Stores.{AreRowsOfWidth}
use Rattle.plan_proofs.proofs.Layouts.{all_layouts}
use Rattle.plan_proofs.proofs.Replies.{large_submitted, small_submitted, refused_by, taken_by}
use Rattle.unit_allocator.specs.Prelude.{Space, free_units}
use Rattle.unit_allocator.specs.Fails.{FailsBy}
use Rattle.unit_allocator.specs.declared.allocator.TakeFail.{TakeFail}
use Rattle.unit_allocator.specs.declared.allocator.TakeFail.TheVariants as take_fail
use Rattle.txn_planner.specs.declared.drafts.TxnDraft.{TxnDraft}
use Rattle.txn_planner.specs.declared.fails.PlanFail.{PlanFail}
use Rattle.txn_planner.specs.declared.fails.PlanFail.TheVariants as fail
use Rattle.txn_planner.specs.declared.planning.Planning.{Planning}
use Rattle.txn_planner.specs.Drafts.{IsDraftFor, IsPlanRefused}
use Rattle.txn_planner.specs.PlanFails.{IsPlanFail, plan_fail_of}
use Rattle.txn_planner.specs.Planning.{first_draft, IsGround, IsPlannedTo, PlannedTo}
use Rattle.txn_planner.proofs.Fronts.{all_taken}
use Rattle.txn_planner.proofs.Grounds.{begins}

pub too_big : (rows : Rows) (change : Change) → is_too_large change ≡ true → IsRefusedBy rows (ask.Change change) TooBig
too_big rows change large objects shape = ap accepted_if (large_submitted change objects large)

-- the objects have some layouts
pub ground_there : (w : Width) (rows : Rows) → AreRowsOfWidth w rows → (change : Change) → IsCollName change.coll → IsKnown change.ops
    → is_too_large change ≡ false → (layouts : List ℕ → Option Layout) × IsGround w change rows layouts
ground_there w rows good change coll known small =
    let all = all_layouts good.store.sup rows change.coll good.store.good coll in (
      all.0,
      record { coll = coll; known = known; small = small; has = λ o name. subst (λ v. HasLayout v rows change.coll o (all.0 o)) good.wide (all.1 o name) },
    )

module _ (w : Width) (rows : Rows) (good : AreRowsOfWidth w rows) (change : Change) (layouts : List ℕ → Option Layout) (ground : IsGround w change rows layouts) where
  pub is_refused_by : (refusal : Refusal) → AreRefused change.ops (first_draft w rows change.coll layouts) refusal → IsRefusedBy rows (ask.Change change) refusal
  is_refused_by refusal are objects shape = ap accepted_if (small_submitted change objects ground.small
      ∙ refused_by good.store.sup rows objects change layouts (first_draft w rows change.coll layouts) good.store.good ground.coll
      (begins w rows good change layouts ground (width_of good.store.sup) good.wide) shape refusal are)

  is_taken_so : (r : Result Objects Refusal) → is_ok r ≡ true → IsTrue (not (is_refused (accepted_if r)))
  is_taken_so (Ok objects) is = refl
  is_taken_so (Err refusal) is = absurd cc

  pub is_not_refused : AreTaken change.ops (first_draft w rows change.coll layouts) → IsNotRefused rows (ask.Change change)
  is_not_refused are objects shape = is_taken_so (submitted_effect change objects) (ap is_ok (small_submitted change objects ground.small)
      ∙ taken_by good.store.sup rows objects change layouts (first_draft w rows change.coll layouts) good.store.good ground.coll
      (begins w rows good change layouts ground (width_of good.store.sup) good.wide) shape are)

  pub asks_by : (p : Planning) → IsPlannedTo w change rows layouts (length change.ops) p → AsksFor w change rows p.taken p.places.items
  asks_by p is = record {
    layouts = layouts;
    start = first_draft w rows change.coll layouts;
    begins = begins w rows good change layouts ground w refl;
    taken = all_are_taken p is;
    need_is = is.state.taken ∙ ap (λ ops. (with_ops ops (first_draft w rows change.coll layouts)).taken) (all_taken change.ops);
    places_are = is.places ∙ ap (λ ops. places_of ops (first_draft w rows change.coll layouts)) (all_taken change.ops);
  }
    where
      all_are_taken : (p : Planning) → IsPlannedTo w change rows layouts (length change.ops) p → AreTaken change.ops (first_draft w rows change.coll layouts)
      all_are_taken p is = subst (λ ops. AreTaken ops (first_draft w rows change.coll layouts)) (all_taken change.ops) is.taken

module _ (w : Width) (rows : Rows) (good : AreRowsOfWidth w rows) (change : Change) (coll : IsCollName change.coll) (known : IsKnown change.ops)
    (small : is_too_large change ≡ false) (space : Space) where
  abbrev g : (layouts : List ℕ → Option Layout) × IsGround w change rows layouts
  g = ground_there w rows good change coll known small

  pub fails_by : (why : PlanFail) → IsPlanRefused w change rows why → IsPlanFail w change rows space why
  fails_by (fail.Refusal refusal) is = is_refused_by w rows good change g.0 g.1 refusal (is g.0 g.1)
  fails_by (fail.NoSpace need free) is = absurd is
  fails_by fail.Memory is = tt

  module _ (p : Planning) (planned : PlannedTo w change rows (length change.ops) p) where
    asks_now : AsksFor w change rows p.taken p.places.items
    asks_now = asks_by w rows good change g.0 g.1 p (planned g.0 g.1)

    not_refused_now : IsNotRefused rows (ask.Change change)
    not_refused_now = is_not_refused w rows good change g.0 g.1 (subst (λ ops. AreTaken ops (first_draft w rows change.coll g.0)) (all_taken change.ops)
        (planned g.0 g.1).taken)

    pub draft_is : (draft : TxnDraft) → draft.planning ≡ p → p.taken ≤ length (free_units space) → draft.units.items ≡ take p.taken (free_units space)
        → IsDraftFor w change rows space draft
    draft_is draft is enough units = record {
      coll = coll;
      known = known;
      small = small;
      not_refused = not_refused_now;
      asks = subst (λ (q : Planning). AsksFor w change rows q.taken q.places.items) (sym is) asks_now;
      enough = subst (λ (q : Planning). q.taken ≤ length (free_units space)) (sym is) enough;
      planned = subst (PlannedTo w change rows (length change.ops)) (sym is) planned;
      units = units ∙ ap (λ (q : Planning). take q.taken (free_units space)) (sym is);
    }

    pub no_space_by : (why : TakeFail) → FailsBy why p.taken (length (free_units space)) → IsPlanFail w change rows space (plan_fail_of why)
    no_space_by (take_fail.NoSpace need free) is = (
      not_refused_now,
      (p.places.items, subst (λ n. AsksFor w change rows n p.places.items) (sym is.0) asks_now),
      is.1,
      omega (arith, is.0, is.1, is.2),
    )
    no_space_by take_fail.Memory is = tt

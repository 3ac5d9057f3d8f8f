use Rattle.std.proofs.Common.{◌≡◌, inl, inr, Some, sym, ap, subst, ◌∙◌}
use Rattle.std.proofs.lemmas.Result.{on_ok_weaker}
use Rattle.unit_fields.specs.Prelude.{IsName}
use Rattle.plan_drafts.specs.Prelude.{edit_on, edit_of, or_new}
use Rattle.txn_planner.proofs.ObjectSteps.{edited_back, missing_back}
use Rattle.txn_planner.proofs.steps.edit_object.Goals as goal

pub returns-in-Some : goal.returns-in-Some
returns-in-Some c =
    let t = c.in_ok-touched.touched in
    let o = c.object_in-object.result.now in
    let on = c.object_in-object.ensures.object in
    on_ok_weaker c.edit_draft.result (λ h. inl (edited_back c.args.width c.args.rows.now.rows c.args.coll.now o
    (subst IsName (sym on) c.object_in-object.ensures.named) c.args.p.now t c.in_ok-touched.ensures.object c.args.op.now on c.args.at _ _ _
    c.in-Some.draft c.in_ok-touched.ensures.same (λ i. record t { now = c.take-now.ensures.after i })
    (c.in-Some.ensures.some.0 ∙ ap or_new c.take-now.ensures.value)
    (subst (λ x. edit_on c.args.op.now x ≡ Some (edit_of c.args.op.now c.in-Some.draft.size)) c.take-now.ensures.value c.in-Some.ensures.some.1) h)) c.edit_draft.ensures

pub returns-in-None : goal.returns-in-None
returns-in-None c =
    let t = c.in_ok-touched.touched in
    let o = c.object_in-object.result.now in
    let on = c.object_in-object.ensures.object in
    on_ok_weaker c.put_object.result (λ h. inr (missing_back c.args.width c.args.rows.now.rows c.args.coll.now o
    (subst IsName (sym on) c.object_in-object.ensures.named) c.args.p.now t c.in_ok-touched.ensures.object c.args.op.now on _ _ _
    c.in_ok-touched.ensures.same (λ i. record t { now = c.take-now.ensures.after i })
    (sym c.take-now.ensures.value ∙ (c.draft_to_edit.ensures.none c.in-None.is).0) (c.draft_to_edit.ensures.none c.in-None.is).1 h)) c.put_object.ensures

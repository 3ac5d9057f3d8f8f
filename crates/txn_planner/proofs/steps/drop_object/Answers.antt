use Rattle.std.proofs.Common.{refl, ap, ◌∙◌}
use Rattle.std.specs.Prelude.{◌||◌, ◌++◌}
use Rattle.std.specs.List.{flat_map}
use Rattle.plan_drafts.specs.Prelude.{or_new, units_released, slots_released}
use Rattle.txn_planner.specs.Steps.{has_any}
use Rattle.txn_planner.proofs.ObjectSteps.{dropped_back}
use Rattle.txn_planner.proofs.PlannedOps.{both_ok}
use Rattle.txn_planner.proofs.steps.drop_object.Goals as goal

pub returns : goal.returns
returns c =
    let t = c.in_ok-touched.touched in
    both_ok c.add_left.result c.add_left.ensures.left c.add_left.ensures.unshared (λ left unshared.
    dropped_back c.args.width c.args.rows.now.rows c.args.coll.now c.args.object.now
    c.name_is_one.ensures c.args.p.now t c.in_ok-touched.ensures.object c.take_object.new.self c.put_object.new.self _ _ c.kept_pages-kept.result
    c.in_ok-touched.ensures.same (c.kept_pages-kept.ensures ∙ ap (λ x. (or_new x).kept) c.take.ensures.value)
    (λ i. record t { now = c.take.ensures.after i; left = (c.has_left.ensures ∙ ap (λ ps. t.left || has_any ps) c.pages.ensures) i })
    c.in_ok-put_object.ensures refl refl refl refl refl refl
    (left ∙ ap (λ ps. c.put_object.new.self.left.items ++ flat_map (λ p. units_released p.1) ps) c.pages-2.ensures)
    (unshared ∙ ap (λ ps. c.put_object.new.self.unshared.items ++ flat_map (λ p. slots_released p.1) ps) c.pages-2.ensures))

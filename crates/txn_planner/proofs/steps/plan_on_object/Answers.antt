use Rattle.std.proofs.Common.{refl, subst}
use Rattle.plan_drafts.specs.Prelude.{object_of}
use Rattle.value_changes.specs.Changed.{ChangesValues}
use Rattle.txn_planner.proofs.PlannedOps.{values_stay}
use Rattle.txn_planner.proofs.steps.plan_on_object.Goals as goal

pub returns-clause-ok : goal.returns-clause-ok
returns-clause-ok c = record {
  between = c.change_object.new.p;
  changes = c.in_ok-change_object.ensures;
  same = refl;
  values = subst (λ m. ChangesValues c.args.op.now c.args.rows.now.rows c.args.coll.now (object_of c.args.op.now) m c.change_values.new.changes)
      (values_stay c.args.width c.args.rows.now.rows c.args.coll.now c.args.op.now c.args.at c.args.p.now c.change_object.new.p c.requires.on
      c.in_ok-change_object.ensures) c.in_ok-change_values.ensures.changed;
}

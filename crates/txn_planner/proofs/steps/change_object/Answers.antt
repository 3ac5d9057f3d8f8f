use Rattle.std.proofs.Common.{inl, refl, sym, subst, ◌∙◌}
use Rattle.object_model.specs.declared.op.Op.{Op}
use Rattle.txn_planner.specs.Steps.{ChangesObject}
use Rattle.txn_planner.proofs.steps.change_object.Goals as goal

pub returns-then-branch : goal.returns-then-branch
returns-then-branch c = subst (λ (op : Op). ChangesObject c.args.width c.args.rows.now.rows c.args.coll.now op c.args.at c.args.p.now c.args.p.now)
    (sym c.in-Touch.is) (inl (record {
      there = λ w layouts d state have. sym (c.in_ok-has_object-in-Touch.ensures w layouts d state (have c.in-Touch.object c.name_is_one.ensures)) ∙ c.if-branch.true;
      same = refl;
    }))

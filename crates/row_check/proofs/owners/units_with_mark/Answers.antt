use Rattle.std.proofs.Common.{◌+◌, ap, sym, subst, ◌∙◌}
use Rattle.std.specs.FinSet as set
use Rattle.row_check.proofs.Collected.{Collected, passed_over, put_in, all_collected}
use Rattle.row_check.proofs.owners.units_with_mark.Goals as goal
use Rattle.row_check.proofs.owners.units_with_mark.Goals.{then-marked+in_ok-push, else-marked}

pub loop-unit-preserved : goal.loop-unit-preserved
loop-unit-preserved c = elim c.if-marked.branch [
  | then-marked+in_ok-push w ↦
      subst (Collected c.args.marks.now (c.loop-unit.unit + 1)) (sym (ap (λ v. v.items) w.units-is ∙ w.in_ok-push.ensures.items))
      (put_in c.args.marks.now c.loop-unit.unit c.loop-unit.units.items c.loop-unit.invariant w.if-marked.true)
  | else-marked w ↦
      subst (Collected c.args.marks.now (c.loop-unit.unit + 1)) (sym (ap (λ v. v.items) w.units-is))
      (passed_over c.args.marks.now c.loop-unit.unit c.loop-unit.units.items c.loop-unit.invariant w.if-marked.false)
]

pub returns : goal.returns
returns c = λ unit.
    ap (λ s. set.contains s unit) c.from_ascending.ensures
    ∙ all_collected c.args.marks.now c.loop-unit.unit c.loop-unit.units.items c.loop-unit.invariant c.loop-unit-test.false unit

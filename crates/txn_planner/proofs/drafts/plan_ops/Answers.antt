use Rattle.std.proofs.Common.{◌≡◌, None, length, ap, subst, arith}
use Rattle.txn_planner.specs.Planning.{IsStateOf, first_draft, PlannedTo}
use Rattle.txn_planner.proofs.PlannedOps.{first_planned}
use Rattle.txn_planner.proofs.drafts.plan_ops.Goals as goal

pub loop-at-init : goal.loop-at-init
loop-at-init c =
    let rows = c.args.rows.now.rows in
    let p = c.in_ok-planning.planning in
    let state = c.in_ok-planning.ensures.state in
    record {
      inside = omega arith;
      planned = first_planned c.args.width c.args.txn.now rows p
          (λ layouts. subst (λ coll. IsStateOf rows coll layouts (first_draft c.args.width rows coll layouts) p) c.coll.ensures (state c.args.width layouts))
          c.in_ok-planning.ensures.writes c.in_ok-planning.ensures.places c.in_ok-planning.ensures.taken;
      taken = omega (arith, c.in_ok-planning.ensures.taken);
      of_values = (subst (λ coll. IsStateOf rows coll (λ o. None) (first_draft c.args.width rows coll (λ o. None)) p) c.coll.ensures
          (state c.args.width (λ o. None))).of_values;
    }

pub loop-at-preserved : goal.loop-at-preserved
loop-at-preserved c = record {
  inside = omega (arith, c.loop-at-test.true, ap length c.ops-at-end.ensures.operations);
  planned = c.in_ok-plan_op.ensures.ok c.loop-at.invariant.planned;
  taken = c.in_ok-plan_op.ensures.taken c.loop-at.invariant.planned;
  of_values = c.in_ok-plan_op.ensures.of_values;
}

pub returns-clause-ok : goal.returns-clause-ok
returns-clause-ok c =
    let e : c.loop-at.at ≡ length c.args.txn.now.ops =
    omega (arith, c.loop-at-test.false, ap length c.ops-at-end.ensures.operations, c.loop-at.invariant.inside) in
    subst (λ n. PlannedTo c.args.width c.args.txn.now c.args.rows.now.rows n c.loop-at.planning) e c.loop-at.invariant.planned

use Rattle.std.proofs.Common.{◌+◌, sym, subst, ◌∙◌, arith}
use Rattle.std.proofs.lemmas.Result.{on_ok_weaker}
use Rattle.unit_fields.specs.Prelude.{IsCollName}
use Rattle.plan_drafts.specs.Prelude.{IsKnownOp, IsBare}
use Rattle.value_changes.specs.Changed.{AreOfValues}
use Rattle.txn_planner.specs.Steps.{OfState, IsNotDropped, IsUnfit, MakesObject}
use Rattle.txn_planner.proofs.NextPlanned.{few_ops, made_next, dropped_next, make_fails, drop_fails}
use Rattle.txn_planner.proofs.PlannedOps.{both_ok, all_ok, three_ok, err_weaker, known_at, on_known, found_op, object_step_in, object_fail, few_by}
use Rattle.txn_planner.proofs.steps.plan_op.Goals as goal

pub plan_on_object-requires : goal.plan_on_object-requires
plan_on_object-requires c =
    let ops = c.args.txn.now.ops in
    let is = found_op ops c.ops.result.now c.args.at c.index-ops-at.result c.requires.inside c.ops.ensures.operations c.index-ops-at.is in
    record {
      good = c.requires.good;
      on = on_known c.index-ops-at.result (subst IsKnownOp is (known_at ops c.args.at c.requires.inside c.requires.known)) c.in_default.not-MkColl
          c.in_default.not-RmColl;
      few = omega (arith, c.requires.taken, c.requires.inside, few_ops c.args.txn.now c.requires.small);
      of_values = subst (λ coll. AreOfValues coll c.args.p.now.values) (sym c.coll-in_default.ensures) c.requires.of_values;
    }

pub returns-in-MkColl-clause-ok : goal.returns-in-MkColl-clause-ok
returns-in-MkColl-clause-ok c =
    let is = found_op c.args.txn.now.ops c.ops.result.now c.args.at c.index-ops-at.result c.requires.inside c.ops.ensures.operations c.index-ops-at.is in
    both_ok c.make_collection.result c.make_collection.ensures.was c.make_collection.ensures.made
    (made_next c.args.width c.args.txn.now c.args.rows.now.rows c.requires.good c.args.at c.requires.inside c.args.p.now c.make_collection.new.p
    (is ∙ c.in-MkColl.is))

pub returns-in-MkColl-clause-fail : goal.returns-in-MkColl-clause-fail
returns-in-MkColl-clause-fail c =
    let is = found_op c.args.txn.now.ops c.ops.result.now c.args.at c.index-ops-at.result c.requires.inside c.ops.ensures.operations c.index-ops-at.is in
    err_weaker c.make_collection.result
    (make_fails c.args.width c.args.txn.now c.args.rows.now.rows c.requires.good c.args.at c.requires.inside c.args.p.now c.make_collection.new.p
    (is ∙ c.in-MkColl.is)) c.make_collection.ensures.fail

pub returns-in-RmColl-clause-ok : goal.returns-in-RmColl-clause-ok
returns-in-RmColl-clause-ok c =
    let is = found_op c.args.txn.now.ops c.ops.result.now c.args.at c.index-ops-at.result c.requires.inside c.ops.ensures.operations c.index-ops-at.is in
    three_ok c.drop_collection.result c.drop_collection.ensures.was c.drop_collection.ensures.bare c.drop_collection.ensures.gone
    (λ was bare gone. dropped_next c.args.width c.args.txn.now c.args.rows.now.rows c.requires.good c.args.at c.requires.inside c.args.p.now
    c.drop_collection.new.p (is ∙ c.in-RmColl.is) was
    (subst (λ coll. OfState c.args.rows.now.rows coll c.args.p.now IsBare) c.coll-in-RmColl.ensures bare) gone)

pub returns-in-RmColl-clause-fail : goal.returns-in-RmColl-clause-fail
returns-in-RmColl-clause-fail c =
    let is = found_op c.args.txn.now.ops c.ops.result.now c.args.at c.index-ops-at.result c.requires.inside c.ops.ensures.operations c.index-ops-at.is in
    err_weaker c.drop_collection.result
    (λ why not. drop_fails c.args.width c.args.txn.now c.args.rows.now.rows c.requires.good c.args.at c.requires.inside c.args.p.now
    c.drop_collection.new.p (is ∙ c.in-RmColl.is) why
    (subst (λ coll. IsNotDropped c.args.rows.now.rows coll c.args.p.now why) c.coll-in-RmColl.ensures not)) c.drop_collection.ensures.fail

pub returns-in_default : goal.returns-in_default
returns-in_default c =
    let ops = c.args.txn.now.ops in
    let rows = c.args.rows.now.rows in
    let op = c.index-ops-at.result in
    let is = found_op ops c.ops.result.now c.args.at op c.requires.inside c.ops.ensures.operations c.index-ops-at.is in
    let on = on_known op (subst IsKnownOp is (known_at ops c.args.at c.requires.inside c.requires.known)) c.in_default.not-MkColl c.in_default.not-RmColl in
    let same = c.coll-in_default.ensures in
    record {
      ok = all_ok c.plan_on_object.result c.plan_on_object.ensures.named c.plan_on_object.ensures.names c.plan_on_object.ensures.fit
          c.plan_on_object.ensures.ok
          (object_step_in c.args.width c.args.txn.now rows c.requires.good c.args.at c.requires.inside c.args.p.now c.plan_on_object.new.p op is on
          c.coll-in_default.result.now same);
      fail = err_weaker c.plan_on_object.result (λ why unfit. object_fail c.args.width c.args.txn.now rows c.requires.good c.args.at c.requires.inside
          c.args.p.now c.plan_on_object.new.p op is on why (subst (λ coll. IsUnfit rows coll op c.args.p.now why) same unfit))
          c.plan_on_object.ensures.fail;
      taken = all_ok c.plan_on_object.result c.plan_on_object.ensures.named c.plan_on_object.ensures.names c.plan_on_object.ensures.fit
          c.plan_on_object.ensures.ok (λ named names fit makes planned. few_by c.args.width rows c.requires.good c.args.txn.now
          (subst IsCollName c.coll.ensures c.coll_name_is_one.ensures) c.requires.known c.requires.small (c.args.at + 1) c.plan_on_object.new.p
          (object_step_in c.args.width c.args.txn.now rows c.requires.good c.args.at c.requires.inside c.args.p.now c.plan_on_object.new.p op is on
          c.coll-in_default.result.now same named names fit makes planned));
      of_values = on_ok_weaker c.plan_on_object.result (λ makes. (subst (λ coll. MakesObject c.args.width rows coll op c.args.at c.args.p.now
          c.plan_on_object.new.p) same makes).values.still c.requires.of_values) c.plan_on_object.ensures.ok;
    }

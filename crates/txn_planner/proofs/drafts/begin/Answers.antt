use Rattle.std.proofs.Common.{refl, sym, subst, ◌∙◌}
use Rattle.unit_fields.specs.Prelude.{IsCollName}
use Rattle.txn_planner.specs.PlanFails.{IsPlanFail}
use Rattle.txn_planner.proofs.Begun.{fails_by, draft_is, no_space_by}
use Rattle.txn_planner.proofs.drafts.begin.Goals as goal

pub returns-in-Err-clause-fail : goal.returns-in-Err-clause-fail
returns-in-Err-clause-fail c = fails_by c.args.width c.args.rows.now.rows c.requires.good c.args.txn.now
    (subst IsCollName c.coll.ensures c.coll_name_is_one.ensures) c.requires.known (sym c.is_too_large.ensures ∙ c.if-is_too_large.false)
    c.args.space.now c.in-Err.why c.in-Err.ensures.fail

pub returns-in-Ok-lowest_units-clause-ok : goal.returns-in-Ok-lowest_units-clause-ok
returns-in-Ok-lowest_units-clause-ok c = draft_is c.args.width c.args.rows.now.rows c.requires.good c.args.txn.now
    (subst IsCollName c.coll.ensures c.coll_name_is_one.ensures) c.requires.known (sym c.is_too_large.ensures ∙ c.if-is_too_large.false)
    c.args.space.now c.in-Ok.planning c.in-Ok.ensures.ok _ refl c.in-Ok-lowest_units.ensures.enough c.in-Ok-lowest_units.ensures.units

pub returns-in-Err-lowest_units-clause-fail : goal.returns-in-Err-lowest_units-clause-fail
returns-in-Err-lowest_units-clause-fail c = subst (IsPlanFail c.args.width c.args.txn.now c.args.rows.now.rows c.args.space.now) (sym c.from.ensures)
    (no_space_by c.args.width c.args.rows.now.rows c.requires.good c.args.txn.now (subst IsCollName c.coll.ensures c.coll_name_is_one.ensures)
    c.requires.known (sym c.is_too_large.ensures ∙ c.if-is_too_large.false) c.args.space.now c.in-Ok.planning c.in-Ok.ensures.ok
    c.in-Err-lowest_units.why c.in-Err-lowest_units.ensures.why)

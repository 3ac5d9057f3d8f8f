use Rattle.txn_planner.proofs.ObjectsThere.{touched_there, some_by_touched, some_by_untouched, none_by_both}
use Rattle.std.proofs.Common.{sym, ◌∙◌}
use Rattle.txn_planner.proofs.planning.Planning.has_objects.Goals as goal

pub returns-then-has_touched-clause-some : goal.returns-then-has_touched-clause-some
returns-then-has_touched-clause-some c some w layouts d state have =
    some_by_touched w c.args.rows.now.rows c.args.coll.now layouts d c.args.self.now state have
    (touched_there c.args.self.now.objects (sym c.has_touched.ensures ∙ some))

pub returns-in_ok-has_untouched-clause-none : goal.returns-in_ok-has_untouched-clause-none
returns-in_ok-has_untouched-clause-none c none w layouts d state have =
    none_by_both w c.args.rows.now.rows c.args.coll.now layouts d c.args.self.now state have
    (sym c.has_touched.ensures ∙ c.if-has_touched.false) (c.in_ok-has_untouched.ensures.none none)

pub returns-in_ok-has_untouched-clause-some : goal.returns-in_ok-has_untouched-clause-some
returns-in_ok-has_untouched-clause-some c some w layouts d state have =
    some_by_untouched w c.args.rows.now.rows c.args.coll.now layouts d c.args.self.now state have (c.in_ok-has_untouched.ensures.some some)

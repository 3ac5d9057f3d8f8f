use Rattle.std.proofs.Common.{sym, ap, ◌∙◌}
use Rattle.std.specs.FinMap as finite
use Rattle.txn_planner.proofs.planning.Planning.take_object.Goals as goal

pub returns-in-Some-clause-object : goal.returns-in-Some-clause-object
returns-in-Some-clause-object c layouts d is has = is.touched c.args.object.now c.in-Some.touched
    (ap (finite.get c.args.self.now.objects) (sym c.as_slice.ensures.bytes) ∙ sym c.take.ensures.was ∙ c.in-Some.is)

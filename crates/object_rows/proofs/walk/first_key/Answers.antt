use Rattle.object_rows.proofs.NamesRange.{least_key, no_key}
use Rattle.object_rows.proofs.walk.first_key.Goals as goal

pub returns-in-Some : goal.returns-in-Some
returns-in-Some c =
    least_key c.args.rows.now.rows c.args.first.now c.args.end.now c.range-range.result c.in-Some.field-0.now c.next.new.self c.as_slice.result.now
    c.range-range.ensures c.in-Some.ensures.steps c.as_slice.ensures

pub returns-in-None : goal.returns-in-None
returns-in-None c = no_key c.args.rows.now.rows c.args.first.now c.args.end.now c.range-range.result c.range-range.ensures c.in-None.ensures.steps.0

use Rattle.script_text.proofs.Splits.{cut_at}
use Rattle.script_text.proofs.split.split_once.Goals as goal

pub returns : goal.returns
returns c =
    let found = c.in-Some.ensures.found in
    cut_at c.args.at c.in-Some.place c.args.text.now found.0 found.1 c.in-Some.ensures.before

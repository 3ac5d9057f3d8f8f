use Rattle.std.proofs.Common.{◌≡◌, reverse, arith}
use Rattle.std.proofs.lemmas.Grind.{common_steps}
use Rattle.meta_rows.proofs.MergeLemmas.{merging_new}
use Rattle.meta_rows.proofs.merging.Merging.new.Goals as goal

pub returns-clause-state : goal.returns-clause-state
returns-clause-state c =
    let same : reverse c.reverse.new.self.items ≡ c.args.ops.items = grind (arith, common_steps) in
    merging_new _ c.args.ops.items c.requires.state c.requires.none same c.requires.rises

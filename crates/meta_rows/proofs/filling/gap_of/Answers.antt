use Rattle.std.proofs.Common.{◌<◌, ◌-◌, ◌∙◌, length, ap, sym, arith}
use Rattle.std.proofs.lemmas.Bool.Decides.{nat_tests}
use Rattle.meta_rows.proofs.FillLemmas.{gap_last}
use Rattle.meta_rows.proofs.filling.gap_of.Goals as goal

pub returns : goal.returns
returns c =
    let some : 0 < length c.args.chunks.now = grind (arith, nat_tests) in
    c.saturating_sub.ensures ∙ ap (λ n. 96 - n) c.len.ensures ∙ sym (gap_last c.args.chunks.now c.index-chunks-chunks.result some c.index-chunks-chunks.is)

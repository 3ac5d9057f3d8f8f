use Rattle.std.proofs.Common.{◌∙◌}
use Rattle.std.proofs.lemmas.List.{get_or-replicate}
use Rattle.page_sources.proofs.PartLemmas.{sum_of_zeros}
use Rattle.page_sources.proofs.parts.lay_zeros_sums.Goals as goal

pub returns : goal.returns
returns c = λ i lt. get_or-replicate 64 i 2566472073 0 lt ∙ sum_of_zeros

use Rattle.std.proofs.Common.{◌∙◌}
use Rattle.meta_rows.proofs.XorLemmas.{xor_bytes-comm}
use Rattle.meta_rows.proofs.row_change.xored.Goals as goal

pub returns-then-len : goal.returns-then-len
returns-then-len c = c.xored_into.ensures ∙ xor_bytes-comm c.args.mask c.args.value

use Rattle.std.proofs.Common.{ap}
use Rattle.std.specs.Prelude.{decimal}
use Rattle.run_texts.proofs.Adding.{both, said}
use Rattle.run_texts.proofs.replies.push_csum.Goals as goal

pub returns : goal.returns
returns g c = both (both (both (both (both c.push_str.ensures (said (ap decimal c.number.ensures) c.push_number.ensures)) c.push_str-2.ensures) c.push_hex_sum.ensures) c.push_str-3.ensures) c.push_hex_sum-2.ensures

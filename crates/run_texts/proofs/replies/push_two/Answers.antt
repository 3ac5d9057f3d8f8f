use Rattle.run_texts.proofs.Adding.{both}
use Rattle.run_texts.proofs.replies.push_two.Goals as goal

pub returns : goal.returns
returns g c = both (both (both c.push_str.ensures c.push_number.ensures) c.push_str-2.ensures) c.push_number-2.ensures

use Rattle.run_texts.proofs.Adding.{both}
use Rattle.run_texts.proofs.fsck_texts.push_counts.Goals as goal

pub returns : goal.returns
returns g c = both (both (both (both (both c.push_str.ensures c.push_number.ensures) c.push_str-2.ensures) c.push_number-2.ensures) c.push_str-3.ensures) c.push_number-3.ensures

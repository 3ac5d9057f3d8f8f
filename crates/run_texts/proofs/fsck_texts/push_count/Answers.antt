use Rattle.run_texts.proofs.Adding.{both}
use Rattle.run_texts.proofs.fsck_texts.push_count.Goals as goal

pub returns : goal.returns
returns g c = both (both c.push_str.ensures c.push_number.ensures) c.push_str-2.ensures

use Rattle.run_texts.proofs.Adding.{both}
use Rattle.run_texts.proofs.fsck_texts.push_key.Goals as goal

pub returns : goal.returns
returns g c = both c.push_str.ensures c.push_hex.ensures

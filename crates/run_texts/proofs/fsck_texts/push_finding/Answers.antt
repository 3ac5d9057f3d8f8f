use Rattle.run_texts.proofs.Adding.{both}
use Rattle.run_texts.proofs.fsck_texts.push_finding.Goals as goal

pub returns : goal.returns
returns g c = both c.push_words.ensures c.push_str.ensures

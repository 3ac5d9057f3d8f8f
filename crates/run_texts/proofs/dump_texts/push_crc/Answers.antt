use Rattle.run_texts.proofs.Adding.{both}
use Rattle.run_texts.proofs.dump_texts.push_crc.Goals as goal

pub returns : goal.returns
returns g c = both c.push_str.ensures c.push_hex_sum.ensures

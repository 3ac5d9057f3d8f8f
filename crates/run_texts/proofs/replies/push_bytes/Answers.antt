use Rattle.run_texts.proofs.Adding.{both, said}
use Rattle.run_texts.proofs.replies.push_bytes.Goals as goal

pub returns : goal.returns
returns g c = both (said c.bytes_word.ensures c.push_str.ensures) c.push_hex_or_dash.ensures

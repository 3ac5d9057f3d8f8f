use Rattle.run_texts.proofs.Adding.{both}
use Rattle.run_texts.proofs.step_texts.push_no_store.Goals as goal

pub returns : goal.returns
returns g c = both c.push_str.ensures (both c.push_str-2.ensures c.push_stopped.ensures)

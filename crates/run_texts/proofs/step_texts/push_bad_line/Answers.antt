use Rattle.run_texts.proofs.Adding.{both}
use Rattle.run_texts.proofs.step_texts.push_bad_line.Goals as goal

pub returns : goal.returns
returns g c =
    both (both (both (both c.push_str.ensures c.push_number.ensures) c.push_str-2.ensures) c.push_number-2.ensures)
    (both c.push_str-3.ensures c.push_stopped.ensures)

use Rattle.log_facts.proofs.Cuts.{sound_image}
use Rattle.log_facts.proofs.laws.sound_rows_survive_a_crash.Goals as goal

pub returns : goal.returns
returns c = sound_image

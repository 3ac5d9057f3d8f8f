use Rattle.log_facts.proofs.SwitchCuts.{sound_next}
use Rattle.log_facts.proofs.laws.sound_rows_stay_sound.Goals as goal

pub returns : goal.returns
returns c = sound_next

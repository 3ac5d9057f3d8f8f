use Rattle.space_facts.proofs.Spaces.{not_idle_until}
use Rattle.space_facts.proofs.laws.released_come_back_in_turn.Goals as goal

pub returns : goal.returns
returns c = λ sup rows batch pending space front rest unit good each apart has counted are.
    not_idle_until sup rows batch pending good each apart space front rest unit has counted are

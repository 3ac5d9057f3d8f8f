use Rattle.switch_facts.proofs.Covers.{pieces_cover, one_less}
use Rattle.switch_facts.proofs.laws.the_pieces_cover.Goals as goal

pub returns : goal.returns
returns c = record { whole = pieces_cover; given = one_less }

use Rattle.row_format.proofs.RowLemmas.{same_thing}
use Rattle.row_format.proofs.laws.different_things_have_different_keys.Goals as goal

pub returns : goal.returns
returns c = same_thing

use Rattle.page_lookup.proofs.Reading.{read_spelled}
use Rattle.page_lookup.proofs.laws.spelled_is_read.Goals as goal

pub returns : goal.returns
returns c = read_spelled

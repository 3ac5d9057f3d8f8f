use Rattle.meta_rows.proofs.Ops.{ops_bytes-same}
use Rattle.meta_rows.proofs.laws.one_list_for_a_spelling.Goals as goal

pub returns : goal.returns
returns c = ops_bytes-same

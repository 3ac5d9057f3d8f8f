use Rattle.txn_codec.proofs.Widths.{encodable}
use Rattle.txn_codec.proofs.laws.what_was_read_is_encodable.Goals as goal

pub returns : goal.returns
returns c = encodable

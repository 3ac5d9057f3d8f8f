use Rattle.txn_codec.proofs.TxnFronts.{transaction_free}
use Rattle.txn_codec.proofs.laws.one_transaction_at_the_front.Goals as goal

pub returns : goal.returns
returns c = transaction_free

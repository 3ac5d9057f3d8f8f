use Rattle.txn_codec.proofs.FieldReading.{passed_on}
use Rattle.txn_codec.proofs.TxnReading.{no_coll, no_begin, begun}
use Rattle.txn_codec.proofs.txn_reading.read_begin.Goals as goal

pub returns-in_err-coll : goal.returns-in_err-coll
returns-in_err-coll c = passed_on _ _ _ _ c.from_residual.ensures (λ is. no_coll c.args.fields.now (c.in_err-coll.ensures is))

pub returns-in-Err : goal.returns-in-Err
returns-in-Err c same = no_begin c.args.fields.now c.read_coll.new.fields c.in_ok-coll.coll c.in_ok-coll.ensures (c.in-Err.ensures same)

pub returns-in_ok-transaction-in-Ok : goal.returns-in_ok-transaction-in-Ok
returns-in_ok-transaction-in-Ok c =
    begun c.args.fields.now c.read_coll.new.fields c.read_first.new.fields c.in_ok-coll.coll c.in-Ok.count c.in-Ok.first c.in_ok-transaction-in-Ok.transaction
    c.in_ok-coll.ensures c.in-Ok.ensures c.in_ok-transaction-in-Ok.ensures

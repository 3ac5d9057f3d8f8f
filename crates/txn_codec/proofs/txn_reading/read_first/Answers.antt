use Rattle.txn_codec.proofs.FieldReading.{passed_on}
use Rattle.txn_codec.proofs.TxnReading.{no_count, no_first}
use Rattle.txn_codec.proofs.txn_reading.read_first.Goals as goal

pub returns-in_err-count : goal.returns-in_err-count
returns-in_err-count c = passed_on _ _ _ _ c.from_residual.ensures (λ is. no_count c.args.fields.now (c.in_err-count.ensures is))

pub returns-in_err-first : goal.returns-in_err-first
returns-in_err-first c =
    passed_on _ _ _ _ c.from_residual-in_err-first.ensures
    (λ is. no_first c.args.fields.now c.read_count.new.fields c.in_ok-count.count c.in_ok-count.ensures (c.in_err-first.ensures is))

pub returns : goal.returns
returns c = record { behind = c.read_count.new.fields; counted = c.in_ok-count.ensures; read = c.in_ok-first.ensures }

use Rattle.std.proofs.Common.{◌≡◌, arith}
use Rattle.txn_codec.proofs.FieldReading.{passed_on}
use Rattle.txn_codec.proofs.TxnReading.{one_more, no_other, body_read}
use Rattle.txn_codec.proofs.txn_reading.read_body.Goals as goal

pub returns-in_err-transaction : goal.returns-in_err-transaction
returns-in_err-transaction c = passed_on _ _ _ _ c.from_residual.ensures (λ is. c.in_err-transaction.ensures is)

pub ops-init : goal.ops-init
ops-init c = c.in_ok-transaction.ensures

pub returns-in_err-add_op : goal.returns-in_err-add_op
returns-in_err-add_op c =
    passed_on _ _ _ _ c.from_residual-in_err-add_op.ensures
    (λ is. no_other c.args.fields.now c.ops.fields c.in_ok-transaction.count c.ops._i c.ops.transaction c.ops.invariant c.ops-test.true (c.in_err-add_op.ensures is))

pub ops-preserved : goal.ops-preserved
ops-preserved c =
    one_more c.args.fields.now c.ops.fields c.add_op.new.fields c.in_ok-transaction.count c.ops._i c.ops.transaction c.add_op.new.transaction c.ops.invariant
    c.in_ok-add_op.ensures

pub returns : goal.returns
returns c =
    let all : c.ops._i ≡ c.in_ok-transaction.count = omega (arith, c.ops-test.false, c.ops.auto._i-end, c.in_ok-transaction.ensures.is_count.some) in
    body_read c.args.fields.now c.ops.fields c.in_ok-transaction.count c.ops._i c.ops.transaction c.ops.invariant all

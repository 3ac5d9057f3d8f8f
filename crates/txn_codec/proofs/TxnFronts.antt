-- No spelling of a transaction begins another.
use Rattle.std.proofs.Common.{◌++◌, sym, ◌∙◌, append_assoc}
use Rattle.txn_codec.specs.Prelude.{name_bytes, list_bytes, txn_op_bytes, transaction_bytes, FitsOp, FitsTransaction}
use Rattle.txn_codec.proofs.Fronts.{IsFree, rest_of, name_front, list_free}
use Rattle.txn_codec.proofs.OpFronts.{op_free}

pub transaction_free : IsFree FitsTransaction transaction_bytes
transaction_free s t x y fs ft e =
    let body = rest_of 1 1 ((name_bytes s.coll ++ list_bytes txn_op_bytes s.ops) ++ x) ((name_bytes t.coll ++ list_bytes txn_op_bytes t.ops) ++ y) e in
    let coll = name_front s.coll t.coll (list_bytes txn_op_bytes s.ops ++ x) (list_bytes txn_op_bytes t.ops ++ y)
    (sym (append_assoc (name_bytes s.coll) (list_bytes txn_op_bytes s.ops) x) ∙ body ∙ append_assoc (name_bytes t.coll) (list_bytes txn_op_bytes t.ops) y) in
    let ops = list_free FitsOp txn_op_bytes op_free s.ops t.ops x y fs.ops ft.ops coll.1 in
    (λ i. record { coll = coll.0 i; ops = ops.0 i }, ops.1)

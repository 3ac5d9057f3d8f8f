use Rattle.std.proofs.Common.{◌∷◌, []}
use Rattle.txn_codec.specs.Prelude.{Name, Number, Value}
use Rattle.txn_codec.proofs.FieldWriting.{form_ends}
use Rattle.txn_codec.proofs.op_writing.push_write.Goals as goal

pub returns : goal.returns
returns c =
    form_ends 4 (Name c.args.object.now ∷ Number c.args.off ∷ []) (Value c.args.bytes.now) c.args.out.now.items c.push_at.new.out.items
    c.push_value.new.out.items c.push_value.result c.in_ok-push_at.ensures c.push_value.ensures

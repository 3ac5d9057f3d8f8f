use Rattle.std.proofs.Common.{◌∷◌, []}
use Rattle.txn_codec.specs.Prelude.{Name, Number}
use Rattle.txn_codec.proofs.FieldWriting.{form_ends}
use Rattle.txn_codec.proofs.op_writing.push_zero.Goals as goal

pub returns : goal.returns
returns c =
    form_ends 5 (Name c.args.object.now ∷ Number c.args.off ∷ []) (Number c.args.len) c.args.out.now.items c.push_at.new.out.items
    c.push_number.new.out.items c.push_number.result c.in_ok-push_at.ensures c.push_number.ensures

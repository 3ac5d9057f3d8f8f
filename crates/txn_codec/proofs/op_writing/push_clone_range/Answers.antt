use Rattle.std.proofs.Common.{◌∷◌, []}
use Rattle.txn_codec.specs.Prelude.{Name, Number, AddsForm}
use Rattle.txn_codec.proofs.FieldWriting.{form_more, form_ends}
use Rattle.txn_codec.proofs.op_writing.push_clone_range.Goals as goal

pub returns : goal.returns
returns c =
    let names = Name c.args.object.now ∷ Name c.args.to.now ∷ [] in
    let first = c.args.out.now.items in
    let with_src : AddsForm 12 (Name c.args.object.now ∷ Name c.args.to.now ∷ Number c.args.src ∷ []) first c.push_number.new.out.items =
    form_more 12 names (Number c.args.src) first c.push_names.new.out.items c.push_number.new.out.items c.in_ok-push_names.ensures
    c.in_ok-push_number.ensures in
    let with_len : AddsForm 12 (Name c.args.object.now ∷ Name c.args.to.now ∷ Number c.args.src ∷ Number c.args.len ∷ []) first
    c.push_number-2.new.out.items =
    form_more 12 (Name c.args.object.now ∷ Name c.args.to.now ∷ Number c.args.src ∷ []) (Number c.args.len) first c.push_number.new.out.items
    c.push_number-2.new.out.items with_src c.in_ok-push_number-2.ensures in
    form_ends 12 (Name c.args.object.now ∷ Name c.args.to.now ∷ Number c.args.src ∷ Number c.args.len ∷ []) (Number c.args.dst) first
    c.push_number-2.new.out.items c.push_number-3.new.out.items c.push_number-3.result with_len c.push_number-3.ensures

use Rattle.object_model.specs.declared.op.Op.TheVariants.{RmAttrs}
use Rattle.row_changes.specs.Prelude.{DropsRange}
use Rattle.value_changes.specs.Changed.{ChangesValues}
use Rattle.object_rows.specs.Fronts.{values_first, values_end}
use Rattle.value_changes.proofs.Named.{on_ok}
use Rattle.value_changes.proofs.Gone.{attrs_gone}
use Rattle.value_changes.proofs.value_ranges.rm_attrs.Goals as goal

pub returns : goal.returns
returns c =
    let rows = c.args.rows.now.rows in
    let coll = c.args.coll.now in
    let o = c.args.object.now in
    let old = c.args.changes.now in
    let new = c.drop_kind.new.changes in
    on_ok c.drop_kind.result (DropsRange rows (values_first 0x41 coll o) (values_end 0x41 coll o) old new)
    (ChangesValues (RmAttrs o) rows coll o old new)
    (attrs_gone rows coll o c.drop_kind.ensures.names c.requires.good old new c.requires.of_values) c.drop_kind.ensures.drops

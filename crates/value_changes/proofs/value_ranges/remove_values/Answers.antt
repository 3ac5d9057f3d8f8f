use Rattle.object_model.specs.declared.op.Op.TheVariants.{Remove, OmapClear}
use Rattle.value_changes.specs.Changed.{ChangesValues}
use Rattle.value_changes.proofs.Named.{on_ok}
use Rattle.value_changes.proofs.Gone.{all_gone}
use Rattle.value_changes.proofs.value_ranges.remove_values.Goals as goal

pub returns : goal.returns
returns c =
    let rows = c.args.rows.now.rows in
    let coll = c.args.coll.now in
    let o = c.args.object.now in
    let old = c.args.changes.now in
    let mid = c.rm_attrs.new.changes in
    let new = c.clear_omap.new.changes in
    on_ok c.clear_omap.result (ChangesValues (OmapClear o) rows coll o mid new) (ChangesValues (Remove o) rows coll o old new)
    (λ then. all_gone rows coll o c.names_are_names.ensures c.requires.good old mid new c.in_ok-rm_attrs.ensures then) c.clear_omap.ensures

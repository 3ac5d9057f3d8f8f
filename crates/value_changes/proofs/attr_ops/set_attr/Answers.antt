use Rattle.std.proofs.Common.{◌≡◌, Some, ◌∙◌}
use Rattle.std.specs.FinMap as finite
use Rattle.object_model.specs.declared.op.Op.TheVariants.{SetAttr}
use Rattle.meta_rows.specs.Prelude.{Rows}
use Rattle.value_changes.specs.Changed.{ChangesValues}
use Rattle.value_changes.proofs.Named.{on_ok, attr_set}
use Rattle.value_changes.proofs.attr_ops.set_attr.Goals as goal

pub returns-clause-changed : goal.returns-clause-changed
returns-clause-changed c =
    let coll = c.args.coll.now in
    let names = c.attr_key.ensures.names in
    let o = c.args.object.now in
    let name = c.args.name.now in
    let value = c.args.value.now in
    let old = c.args.changes.now in
    let new = c.set.new.self in
    on_ok c.set.result (new ≡ finite.insert old c.in_ok-key.key (Some c.in_ok-value.value))
    ((rows : Rows) → ChangesValues (SetAttr o name value) rows coll o old new)
    (λ is rows. attr_set rows coll o (names.0, names.1) name value old new names.2
    (is ∙ (λ i. finite.insert old (c.in_ok-key.ensures.key i) (Some (c.in_ok-value.ensures i)))))
    c.set.ensures.ok

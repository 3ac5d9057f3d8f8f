use Rattle.std.proofs.Common.{◌≡◌, List, ℕ, None, ap, ◌∙◌}
use Rattle.std.specs.FinMap as finite
use Rattle.object_model.specs.declared.op.Op.TheVariants.{RmAttr}
use Rattle.meta_rows.specs.Prelude.{Rows}
use Rattle.value_changes.specs.Changed.{ChangesValues}
use Rattle.value_changes.proofs.Named.{on_ok, attr_gone}
use Rattle.value_changes.proofs.attr_ops.rm_attr.Goals as goal

pub returns-clause-changed : goal.returns-clause-changed
returns-clause-changed c =
    let coll = c.args.coll.now in
    let names = c.attr_key.ensures.names in
    let o = c.args.object.now in
    let name = c.args.name.now in
    let old = c.args.changes.now in
    let new = c.set.new.self in
    on_ok c.set.result (new ≡ finite.insert old c.in_ok-key.key None)
    ((rows : Rows) → ChangesValues (RmAttr o name) rows coll o old new)
    (λ is rows. attr_gone rows coll o (names.0, names.1) name old new names.2
    (is ∙ ap (λ (key : List ℕ). finite.insert old key None) c.in_ok-key.ensures.key))
    c.set.ensures.ok

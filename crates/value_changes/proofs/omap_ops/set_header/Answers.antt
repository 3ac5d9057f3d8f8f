use Rattle.std.proofs.Common.{◌≡◌, ◌∙◌}
use Rattle.std.specs.FinMap as finite
use Rattle.object_model.specs.declared.op.Op.TheVariants.{OmapHeader}
use Rattle.meta_rows.specs.Prelude.{Rows}
use Rattle.value_changes.specs.Changed.{ChangesValues}
use Rattle.value_changes.proofs.Named.{on_ok, header_set}
use Rattle.value_changes.proofs.omap_ops.set_header.Goals as goal

pub returns : goal.returns
returns c =
    let coll = c.args.coll.now in
    let o = c.args.object.now in
    let header = c.args.header.now in
    let old = c.args.changes.now in
    let new = c.set.new.self in
    on_ok c.set.result (new ≡ finite.insert old c.in_ok-key.key c.in_ok-value.value)
    ((rows : Rows) → ChangesValues (OmapHeader o header) rows coll o old new)
    (λ is rows. header_set rows coll o c.header_key.ensures.names header old new
    (is ∙ (λ i. finite.insert old (c.in_ok-key.ensures.key i) (c.in_ok-value.ensures i))))
    c.set.ensures.ok

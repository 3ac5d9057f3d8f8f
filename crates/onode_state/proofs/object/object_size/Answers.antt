use Rattle.std.proofs.Common.{◌≡◌, Some, ap, sym, subst, ◌∙◌}
use Rattle.std.specs.FinMap as map
use Rattle.row_format.specs.Prelude.{onode_key}
use Rattle.onode_codec.specs.Reading.{SpellsOnode}
use Rattle.onode_state.proofs.States.{onode_under, size_read}
use Rattle.onode_state.proofs.object.object_size.Goals as goal

pub size_in-requires : goal.size_in-requires
size_in-requires c =
    let rows = c.args.rows.now.rows in
    let coll = c.args.coll.now in
    let object = c.args.object.now in
    let there : map.get rows (onode_key coll object) ≡ Some c.in-Some.value.now =
    ap (λ k. map.get rows k) (sym c.in_ok-key.ensures.key ∙ sym c.as_slice.ensures) ∙ sym c.in-Some.ensures in
    let found = onode_under rows coll object c.onode_key.ensures.names.0 c.onode_key.ensures.names.1 c.requires c.in-Some.value.now there in
    (found.size, subst (λ v. SpellsOnode v found.size) (sym c.as_slice-in-Some.ensures) found.spelled)

pub returns-in-Some : goal.returns-in-Some
returns-in-Some c =
    let rows = c.args.rows.now.rows in
    let coll = c.args.coll.now in
    let object = c.args.object.now in
    let there : map.get rows (onode_key coll object) ≡ Some c.in-Some.value.now =
    ap (λ k. map.get rows k) (sym c.in_ok-key.ensures.key ∙ sym c.as_slice.ensures) ∙ sym c.in-Some.ensures in
    size_read rows coll object c.onode_key.ensures.names.0 c.onode_key.ensures.names.1 c.requires c.in-Some.value.now c.size_in.result there
    (subst (λ v. SpellsOnode v c.size_in.result) c.as_slice-in-Some.ensures c.size_in.ensures)

pub returns : goal.returns
returns c =
    let rows = c.args.rows.now.rows in
    let coll = c.args.coll.now in
    let object = c.args.object.now in
    ap (λ k. map.get rows k) (sym c.in_ok-key.ensures.key ∙ sym c.as_slice.ensures) ∙ sym c.in-None.ensures

use Rattle.std.proofs.Common.{◌≡◌, [], ◌∷◌, Some, sym, subst, ◌∙◌}
use Rattle.meta_rows.specs.Prelude.{rows_from_to}
use Rattle.row_format.specs.Prelude.{object_key, onode_key}
use Rattle.onode_state.specs.Objects.{IsObjectFound}
use Rattle.onode_state.proofs.FoundObjects.{first_spells, rest_ascends, is_found, missing_behind, missing_of_none}
use Rattle.onode_state.proofs.object.find_object.Goals as goal
use Rattle.onode_state.proofs.object.find_object.Goals.{in_default-via-in-Some+else-is_same, in_default-via-in_default}

pub size_in-requires : goal.size_in-requires
size_in-requires c =
    let rows = c.args.rows.now.rows in
    let coll = c.args.coll.now in
    let object = c.args.object.now in
    let x = c.in-Some.field-0.now in
    let end = c.as_slice-2.ensures ∙ c.in_ok-end.ensures.key in
    let first = c.as_slice.ensures ∙ c.in_ok-onode.ensures.key in
    let are : rows_from_to rows (onode_key coll object) (Some (object_key 0x4f coll object (0x70 ∷ []))) ≡ x ∷ c.next.new.self =
    (λ i. rows_from_to rows (sym first i) (Some (sym end i))) ∙ sym c.range-shards.ensures ∙ c.in-Some.ensures.steps in
    first_spells c.args.width rows coll object c.onode_key.ensures.names.0 c.onode_key.ensures.names.1 c.requires x c.next.new.self are
    c.as_slice-in-Some.result.now (c.is_same.ensures.0 c.if-is_same.true ∙ c.in_ok-onode.ensures.key) c.as_slice-in-Some.ensures

pub new-requires : goal.new-requires
new-requires c =
    let rows = c.args.rows.now.rows in
    let coll = c.args.coll.now in
    let object = c.args.object.now in
    let x = c.in-Some.field-0.now in
    let end = c.as_slice-2.ensures ∙ c.in_ok-end.ensures.key in
    let first = c.as_slice.ensures ∙ c.in_ok-onode.ensures.key in
    let are : rows_from_to rows (onode_key coll object) (Some (object_key 0x4f coll object (0x70 ∷ []))) ≡ x ∷ c.next.new.self =
    (λ i. rows_from_to rows (sym first i) (Some (sym end i))) ∙ sym c.range-shards.ensures ∙ c.in-Some.ensures.steps in
    rest_ascends c.args.width rows coll object c.onode_key.ensures.names.0 c.onode_key.ensures.names.1 c.requires x c.next.new.self are
    (c.is_same.ensures.0 c.if-is_same.true ∙ c.in_ok-onode.ensures.key)

pub returns-in-Some-clause-found : goal.returns-in-Some-clause-found
returns-in-Some-clause-found c =
    let rows = c.args.rows.now.rows in
    let coll = c.args.coll.now in
    let object = c.args.object.now in
    let x = c.in-Some.field-0.now in
    let end = c.as_slice-2.ensures ∙ c.in_ok-end.ensures.key in
    let first = c.as_slice.ensures ∙ c.in_ok-onode.ensures.key in
    let are : rows_from_to rows (onode_key coll object) (Some (object_key 0x4f coll object (0x70 ∷ []))) ≡ x ∷ c.next.new.self =
    (λ i. rows_from_to rows (sym first i) (Some (sym end i))) ∙ sym c.range-shards.ensures ∙ c.in-Some.ensures.steps in
    subst (IsObjectFound c.args.width rows coll object c.size_in.result) (sym c.new.ensures)
    (is_found c.args.width rows coll object c.onode_key.ensures.names.0 c.onode_key.ensures.names.1 c.requires x c.next.new.self are
    c.as_slice-in-Some.result.now c.size_in.result (c.is_same.ensures.0 c.if-is_same.true ∙ c.in_ok-onode.ensures.key) c.as_slice-in-Some.ensures c.size_in.ensures)

pub returns-clause-found : goal.returns-clause-found
returns-clause-found c =
    let rows = c.args.rows.now.rows in
    let coll = c.args.coll.now in
    let object = c.args.object.now in
    let end = c.as_slice-2.ensures ∙ c.in_ok-end.ensures.key in
    let first = c.as_slice.ensures ∙ c.in_ok-onode.ensures.key in
    let are : rows_from_to rows (onode_key coll object) (Some (object_key 0x4f coll object (0x70 ∷ []))) ≡ c.range-shards.result =
    (λ i. rows_from_to rows (sym first i) (Some (sym end i))) ∙ sym c.range-shards.ensures in
    elim c.in_default.branch [
      | in_default-via-in-Some+else-is_same w ↦
          missing_behind c.args.width rows coll object c.onode_key.ensures.names.0 c.onode_key.ensures.names.1 c.requires
          w.in-Some.field-0.now c.next.new.self (are ∙ w.in-Some.ensures.steps)
          (λ same. let so = w.is_same.ensures.1 (same ∙ sym c.in_ok-onode.ensures.key) in let not = w.if-is_same.false in absurd cc)
      | in_default-via-in_default w ↦
          missing_of_none c.args.width rows coll object c.onode_key.ensures.names.0 c.onode_key.ensures.names.1 c.requires (are ∙ w.in_default.ensures.steps.0)
    ]

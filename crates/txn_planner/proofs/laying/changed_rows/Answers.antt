use Rattle.std.proofs.Common.{◌≡◌, cond, Bool, List, ℕ, sym, ap, subst, ◌∙◌}
use Rattle.std.specs.List.{list_any}
use Rattle.std.specs.FinMap as finite
use Rattle.object_model.specs.declared.op.Op.{Op}
use Rattle.unit_fields.specs.Prelude.{IsCollName}
use Rattle.row_format.specs.Prelude.{coll_key}
use Rattle.row_changes.specs.Prelude.{ChangeMap}
use Rattle.plan_drafts.specs.Prelude.{Held}
use Rattle.page_edits.specs.Writes.{held_in}
use Rattle.txn_planner.specs.Laying.{with_objects, coll_row, is_on_coll, with_rows, with_blobs, IsChangesOf}
use Rattle.txn_planner.proofs.BlobChanges.{are_changes}
use Rattle.txn_planner.proofs.laying.changed_rows.Goals.{then-is_any_on_coll+in_ok-put_collection, else-is_any_on_coll}
use Rattle.txn_planner.proofs.laying.changed_rows.Goals as goal

pub returns : goal.returns
returns c =
    let width = c.args.width in
    let rows = c.args.rows.now.rows in
    let change = c.args.txn.now in
    let p = c.args.planning in
    let units : List ℕ = c.args.units.now in
    let held : Held = held_in c.args.contents.now in
    let by : List ℕ → ChangeMap = λ coll. with_objects width rows coll units held (finite.keys p.objects) p.objects p.values in
    let objects : ChangeMap = by change.coll in
    let either : Bool → ChangeMap = λ b. cond b (finite.insert objects (coll_key change.coll) (coll_row p.there)) objects in
    let put : c.put_objects.new.changes ≡ objects = c.in_ok-put_objects.ensures ∙ ap by c.coll-coll.ensures in
    let on : c.is_any_on_coll.result ≡ list_any is_on_coll change.ops =
    c.is_any_on_coll.ensures ∙ ap (λ (ops : List Op). list_any is_on_coll ops) c.ops.ensures.operations in
    let made : c.if-is_any_on_coll.changes ≡ with_rows width rows change units held p = elim c.if-is_any_on_coll.branch [
      | then-is_any_on_coll+in_ok-put_collection w ↦ w.changes-is ∙ w.in_ok-put_collection.ensures
          ∙ (λ i. finite.insert (put i) (coll_key (c.coll-coll.ensures i)) (coll_row p.there))
          ∙ sym (ap either (sym on ∙ w.if-is_any_on_coll.true))
      | else-is_any_on_coll w ↦ w.changes-is ∙ put ∙ sym (ap either (sym on ∙ w.if-is_any_on_coll.false))
    ] in
    let all : c.put_blobs.new.changes ≡ with_blobs width (finite.entries c.args.lowered.now.blobs) (with_rows width rows change units held p) =
    c.in_ok-put_blobs.ensures ∙ ap (with_blobs width (finite.entries c.args.lowered.now.blobs)) made in
    subst (IsChangesOf width rows change p units held) (sym all)
    (are_changes width rows change (subst IsCollName c.coll.ensures c.coll_name_is_one.ensures) p units held c.args.lowered.now c.requires.lowered
    c.requires.units)

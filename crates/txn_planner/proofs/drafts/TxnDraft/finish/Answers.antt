use Rattle.std.proofs.Common.{◌≡◌, ◌↔◌, ◌⊎◌, ℕ, ◌<◌, List, Contains, length, map, refl, sym, ap, subst, ◌∙◌}
use Rattle.std.specs.List.{AllByRecursion}
use Rattle.std.specs.FinSet as set
use Rattle.byte_maps.specs.ByteMap.{ByteMap}
use Rattle.meta_rows.specs.declared.row_op.RowOp.{RowOp}
use Rattle.bitmap_freelist.specs.Bitmap.{Units, Has}
use Rattle.plan_drafts.specs.Prelude.{filled, none_held}
use Rattle.plan_rows.specs.declared.plan.FreshUnit.{FreshUnit}
use Rattle.plan_rows.specs.declared.plan.SlotNo.{SlotNo}
use Rattle.shared_blobs.specs.Lowering.{AreLowered}
use Rattle.shared_blobs.specs.declared.lowering.Lowered.{Lowered}
use Rattle.page_edits.specs.Writes.{CanBeMade, after_writes, held_in}
use Rattle.txn_planner.specs.declared.touched.Touched.{Touched}
use Rattle.txn_planner.specs.Finishing.{AreRowOps}
use Rattle.txn_planner.specs.Laying.{AllTakeBelow, IsChangesOf}
use Rattle.txn_planner.specs.Standing.{IsPutIn}
use Rattle.txn_planner.proofs.PutPages.{listed}
use Rattle.txn_planner.proofs.Finished.{can_be_made, as_many, named, below, all_below, released_by, is_plan}
use Rattle.txn_planner.proofs.drafts.TxnDraft.finish.Goals as goal

-- a set's numbers, listed, are those that were put
are_put : (objects : ByteMap Touched) (us : List ℕ) (s : Units) → set.from_list us ≡ s → ((taking : ℕ) → Has s taking ↔ IsPutIn objects taking)
    → (taking : ℕ) → Contains us taking ↔ IsPutIn objects taking
are_put objects us s are put taking = (
  λ k. (put taking).0 ((listed us s taking are).0 k),
  λ p. (listed us s taking are).1 ((put taking).1 p),
)

pub contents-requires-clause-can : goal.contents-requires-clause-can
contents-requires-clause-can c =
    let p = c.args.self.planning in
    subst (λ ops. AllByRecursion (CanBeMade ops p.taken) c.deref.result.now) (sym c.ops.ensures.operations)
    (subst (AllByRecursion (CanBeMade c.args.txn.now.ops p.taken)) (sym c.deref.ensures.value)
    (can_be_made c.args.width c.args.txn.now c.args.rows.now.rows c.args.space.now c.args.self c.requires.good c.requires.draft))

pub fresh_units-requires-clause-units : goal.fresh_units-requires-clause-units
fresh_units-requires-clause-units c =
    let w = c.args.width in
    let change = c.args.txn.now in
    let rows = c.args.rows.now.rows in
    let space = c.args.space.now in
    let draft = c.args.self in
    let takings : List ℕ = c.as_slice-2.result.now in
    let many : draft.planning.taken ≡ length c.deref-2.result.now =
    sym (as_many w change rows space draft c.requires.good c.requires.draft) ∙ ap (λ (us : List ℕ). length us) (sym c.deref-2.ensures.value) in
    subst (λ n. AllByRecursion (λ t. t < n) takings) many
    (all_below w change rows space draft c.requires.good c.requires.draft takings
    (are_put draft.planning.objects takings c.in_ok-takings.takings c.as_slice-2.ensures.units c.in_ok-takings.ensures))

pub fresh_units-requires-clause-contents : goal.fresh_units-requires-clause-contents
fresh_units-requires-clause-contents c =
    let w = c.args.width in
    let change = c.args.txn.now in
    let rows = c.args.rows.now.rows in
    let space = c.args.space.now in
    let draft = c.args.self in
    let takings : List ℕ = c.as_slice-2.result.now in
    let many : draft.planning.taken ≡ length c.as_slice-3.result.now =
    sym c.in_ok-held.ensures.count ∙ ap (λ (l : List (List ℕ)). length l) (sym c.as_slice-3.ensures) in
    subst (λ n. AllByRecursion (λ t. t < n) takings) many
    (all_below w change rows space draft c.requires.good c.requires.draft takings
    (are_put draft.planning.objects takings c.in_ok-takings.takings c.as_slice-2.ensures.units c.in_ok-takings.ensures))

pub changed_rows-requires-clause-lowered : goal.changed_rows-requires-clause-lowered
changed_rows-requires-clause-lowered c =
    subst (λ (ss : List SlotNo). AreLowered c.args.width c.args.rows.now.rows ss c.in_ok-lowered.lowered) c.deref-3.ensures.value c.in_ok-lowered.ensures

pub changed_rows-requires-clause-named : goal.changed_rows-requires-clause-named
changed_rows-requires-clause-named c =
    named c.args.width c.args.txn.now c.args.rows.now.rows c.args.space.now c.args.self c.requires.good c.requires.draft

pub changed_rows-requires-clause-units : goal.changed_rows-requires-clause-units
changed_rows-requires-clause-units c =
    let w = c.args.width in
    let change = c.args.txn.now in
    let rows = c.args.rows.now.rows in
    let space = c.args.space.now in
    let draft = c.args.self in
    let many : draft.planning.taken ≡ length c.deref-6.result.now =
    sym (as_many w change rows space draft c.requires.good c.requires.draft) ∙ ap (λ (us : List ℕ). length us) (sym c.deref-6.ensures.value) in
    subst (λ n. AllTakeBelow n draft.planning.objects) many (below w change rows space draft c.requires.good c.requires.draft)

pub changed_rows-requires-clause-contents : goal.changed_rows-requires-clause-contents
changed_rows-requires-clause-contents c =
    let draft = c.args.self in
    let many : draft.planning.taken ≡ length c.as_slice-4.result.now =
    sym c.in_ok-held.ensures.count ∙ ap (λ (l : List (List ℕ)). length l) (sym c.as_slice-4.ensures) in
    subst (λ n. AllTakeBelow n draft.planning.objects) many
    (below c.args.width c.args.txn.now c.args.rows.now.rows c.args.space.now draft c.requires.good c.requires.draft)

pub returns-clause-ok : goal.returns-clause-ok
returns-clause-ok c =
    let w = c.args.width in
    let change = c.args.txn.now in
    let rows = c.args.rows.now.rows in
    let draft = c.args.self in
    let p = draft.planning in
    let contents : List (List ℕ) = c.in_ok-held.held in
    let fresh : List FreshUnit = c.in_ok-fresh.fresh in
    let lowered : Lowered = c.in_ok-lowered.lowered in
    let released : List ℕ = c.in_ok-released.released in
    let ops : List RowOp = c.in_ok-ops.ops in
    is_plan w change rows c.args.space.now draft c.requires.good c.requires.draft c.args.read c.requires.read
    (record { ops = ops; fresh = fresh; released = released; read = c.args.read; new_blobs = 0 })
    (record {
      read_is = refl;
      contents = contents;
      held = c.in_ok-held.ensures.held
          ∙ (λ i. after_writes (c.ops.ensures.operations i) (c.as_slice.ensures i) (c.deref.ensures.value i) none_held);
      takings = c.as_slice-2.result.now;
      ascend = c.as_slice-2.ensures.ascending;
      are_put = are_put p.objects c.as_slice-2.result.now c.in_ok-takings.takings c.as_slice-2.ensures.units c.in_ok-takings.ensures;
      fresh = c.in_ok-fresh.ensures.filled
          ∙ (λ i. filled (c.deref-2.ensures.value i) (held_in (c.as_slice-3.ensures i)) c.as_slice-2.result.now);
      csums = c.in_ok-fresh.ensures.csums;
      are_left = λ unit. released_by w rows p.unshared.items p.left.items released lowered
          (subst (λ (ss : List SlotNo). AreLowered w rows ss lowered) c.deref-3.ensures.value c.in_ok-lowered.ensures) unit
          (subst (λ (l : List ℕ). Contains released unit ↔ (Contains l unit ⊎ Contains lowered.freed.items unit)) c.deref-4.ensures.value
          (subst (λ (l : List ℕ). Contains released unit ↔ (Contains c.deref-4.result.now unit ⊎ Contains l unit)) c.deref-5.ensures.value
          (c.in_ok-released.ensures.left unit)));
      left_ascend = c.in_ok-released.ensures.ascend;
      changes = c.in_ok-changes.changes;
      are_changes =
          let changes = c.in_ok-changes.changes in
          subst (λ (l : List (List ℕ)). IsChangesOf w rows change p draft.units.items (held_in l) changes) c.as_slice-4.ensures
          (subst (λ (us : List ℕ). IsChangesOf w rows change p us (held_in c.as_slice-4.result.now) changes) c.deref-6.ensures.value
          c.in_ok-changes.ensures);
      ops = subst (λ (l : List ℕ). AreRowOps rows c.in_ok-changes.changes (map (λ (f : FreshUnit). f.unit) fresh) l ops) c.as_slice-6.ensures
          (subst (λ (l : List FreshUnit). AreRowOps rows c.in_ok-changes.changes (map (λ (f : FreshUnit). f.unit) l) c.as_slice-6.result.now ops)
          c.as_slice-5.ensures c.in_ok-ops.ensures);
      none_made = refl;
    })

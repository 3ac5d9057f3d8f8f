use Rattle.std.proofs.Common.{◌≡◌, ℕ, ◌<◌, List, Option, Some, None, rules, sym, ap, subst, ◌∙◌}
use Rattle.std.specs.Prelude.{slice_get}
use Rattle.std.specs.Option.{option_map_or}
use Rattle.std.specs.FinMap as finite
use Rattle.byte_maps.specs.ByteMap.{ByteMap}
use Rattle.unit_fields.specs.declared.width.Width.{Width}
use Rattle.meta_rows.specs.Prelude.{Rows}
use Rattle.row_changes.specs.Prelude.{ChangeMap}
use Rattle.plan_drafts.specs.Prelude.{Held}
use Rattle.page_edits.specs.Writes.{held_in}
use Rattle.txn_planner.specs.declared.touched.Touched.{Touched}
use Rattle.txn_planner.specs.Laying.{with_touched, with_objects}
use Rattle.txn_planner.proofs.ObjectNames.{left_some, names_left, names_behind, no_names, one_fewer}
use Rattle.txn_planner.proofs.laying.put_objects.Goals.{in-Some-take+in_ok-put_touched, in_default-take}
use Rattle.txn_planner.proofs.laying.put_objects.Goals as goal

module _ (w : Width) (rows : Rows) (c units : List ℕ) (held : Held) where
  abbrev stepped : List ℕ → ChangeMap → Option Touched → ChangeMap
  stepped o m z = option_map_or (λ t. with_touched w rows c units held o t m) z m

  next_object : (objects objects' : ByteMap Touched) (name key : List ℕ) (m m' target : ChangeMap)
      → slice_get (finite.keys objects) 0 ≡ Some name → key ≡ name → objects' ≡ finite.remove objects key
      → m' ≡ stepped key m (finite.get objects key) → with_objects w rows c units held (finite.keys objects) objects m ≡ target
      → with_objects w rows c units held (finite.keys objects') objects' m' ≡ target
  next_object objects objects' name key m m' target first is taken made before =
      let behind = names_behind objects name first in
      let left : finite.keys objects' ≡ behind.0 =
      ap finite.keys taken ∙ ap (λ o. finite.keys (finite.remove objects o)) is ∙ names_left objects name behind.0 behind.1 in
      ap (λ l. with_objects w rows c units held l objects' m') left
      ∙ ap (λ n. with_objects w rows c units held behind.0 objects' n) made
      ∙ ap (λ l. with_objects w rows c units held behind.0 l (stepped key m (finite.get objects key))) taken
      ∙ ap (λ o. with_objects w rows c units held behind.0 (finite.remove objects o) (stepped o m (finite.get objects o))) is
      ∙ sym (ap (λ l. with_objects w rows c units held l objects m) behind.1)
      ∙ before

pub names-smaller : goal.names-smaller
names-smaller c =
    let objects : ByteMap Touched = c.names.objects in
    let first = sym c.in_ok-name.ensures ∙ c.in-Some.is in
    let behind = names_behind objects c.in-Some.name first in
    let taken : c.take.new.self ≡ finite.remove objects c.in-Some.name =
    c.take.ensures.taken ∙ ap (finite.remove objects) c.as_slice.ensures.bytes in
    subst (λ (l : ByteMap Touched). finite.len l < finite.len objects) (sym taken) (one_fewer objects c.in-Some.name behind.0 behind.1)

pub names-preserved : goal.names-preserved
names-preserved c =
    let objects : ByteMap Touched = c.names.objects in
    let m : ChangeMap = c.names.changes in
    let key : List ℕ = c.as_slice.result.now in
    let width = c.args.width in
    let rows : Rows = c.args.rows.now.rows in
    let coll : List ℕ = c.args.coll.now in
    let units : List ℕ = c.args.units.now in
    let held : Held = held_in c.args.contents.now in
    let first = sym c.in_ok-name.ensures ∙ c.in-Some.is in
    let made : c.match-take.changes ≡ stepped width rows coll units held key m (finite.get objects key) = elim c.match-take.branch [
      | in-Some-take+in_ok-put_touched w ↦ w.changes-is ∙ w.in_ok-put_touched.ensures
          ∙ ap (λ o. with_touched width rows coll units held o w.in-Some-take.touched m) (sym c.as_slice.ensures.bytes)
          ∙ ap (stepped width rows coll units held key m) (sym w.in-Some-take.is ∙ c.take.ensures.was)
      | in_default-take w ↦ w.changes-is ∙ ap (stepped width rows coll units held key m) (sym w.in_default-take.is ∙ c.take.ensures.was)
    ] in
    record {
      named = λ o t found. c.names.invariant.named o t (left_some objects key o t (sym (ap (λ l. finite.get l o) c.take.ensures.taken) ∙ found));
      units = λ o t found. c.names.invariant.units o t (left_some objects key o t (sym (ap (λ l. finite.get l o) c.take.ensures.taken) ∙ found));
      contents = λ o t found. c.names.invariant.contents o t (left_some objects key o t (sym (ap (λ l. finite.get l o) c.take.ensures.taken) ∙ found));
      changes = next_object width rows coll units held objects c.take.new.self c.in-Some.name key m c.match-take.changes _ first c.as_slice.ensures.bytes c.take.ensures.taken made
          c.names.invariant.changes;
    }

pub returns : goal.returns
returns c =
    let objects : ByteMap Touched = c.names.objects in
    let missing : c.in_ok-name.field-0 ≡ None = search rules in
    let none = no_names objects (sym c.in_ok-name.ensures ∙ missing) in
    ap (λ l. with_objects c.args.width c.args.rows.now.rows c.args.coll.now c.args.units.now (held_in c.args.contents.now) l objects c.names.changes)
    (sym none)
    ∙ c.names.invariant.changes

use Rattle.std.proofs.Common.{refl, sym, subst}
use Rattle.unit_fields.specs.declared.width.Width.{Width}
use Rattle.std.specs.List.{AllByRecursion}
use Rattle.store_image.specs.Prelude.{HasSlots}
use Rattle.row_check.specs.Named.{KnowsEarlier}
use Rattle.row_check.proofs.Before.{behind_onode}
use Rattle.row_check.proofs.in_place.shard_stands.Goals as goal

pub all_have_slots-requires : goal.all_have_slots-requires
all_have_slots-requires c =
    subst (λ (w : Width). KnowsEarlier w c.args.rows.now.rows c.args.passed.now.namers c.args.coll.now) (sym c.width.ensures) c.requires.earlier

pub returns-then-not-have : goal.returns-then-not-have
returns-then-not-have c = (
  λ yes. absurd cc,
  λ stands. absurd (
      let slots = subst (λ (w : Width). AllByRecursion (λ e. HasSlots w c.args.rows.now.rows c.args.coll.now e.body) c.args.extents.now) (sym c.width.ensures) stands.slots in
      let have = c.in_ok-have.ensures.1 slots in cc),
)

pub returns-in-Some : goal.returns-in-Some
returns-in-Some c =
    let slots = subst (λ (w : Width). AllByRecursion (λ e. HasSlots w c.args.rows.now.rows c.args.coll.now e.body) c.args.extents.now) c.width.ensures
    (c.in_ok-have.ensures.0 c.if-not-have.false) in
    let by = behind_onode c.args.sup.now c.args.rows.now.rows c.args.passed.now c.args.coll.now c.args.object.now c.in-Some.size c.args.extents.now
    c.requires.collection c.if-passed.true c.in-Some.ensures (c.requires.before c.in-Some.size c.in-Some.ensures)
    (c.if-not-ascend.ensures.0 refl) (c.if-not-all_on_data.ensures.0 refl) slots in
    (λ yes. by.0 (c.are_within_size.ensures.0 yes), λ is. c.are_within_size.ensures.1 (by.1 is))

pub returns-in_ok-are_within_object-in_default : goal.returns-in_ok-are_within_object-in_default
returns-in_ok-are_within_object-in_default c =
    let slots = subst (λ (w : Width). AllByRecursion (λ e. HasSlots w c.args.rows.now.rows c.args.coll.now e.body) c.args.extents.now) c.width.ensures
    (c.in_ok-have.ensures.0 c.if-not-have.false) in (
      λ yes. record {
        ascend = c.if-not-ascend.ensures.0 refl;
        on_data = c.if-not-all_on_data.ensures.0 refl;
        has_collection = c.in_ok-has_collection-in_default.ensures.0 c.if-branch.true;
        within_onode = c.in_ok-are_within_object-in_default.ensures.0 yes;
        slots = slots;
      },
      λ stands. c.in_ok-are_within_object-in_default.ensures.1 stands.within_onode,
    )

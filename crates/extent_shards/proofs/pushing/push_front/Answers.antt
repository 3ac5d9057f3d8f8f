use Rattle.std.proofs.Common.{◌+◌, inr, refl, rules, subst}
use Rattle.extent_shards.specs.Prelude.{LacksRoom, WritesRun}
use Rattle.extent_shards.proofs.Cutting.{full_without_room, more_with_room, small_with_room}
use Rattle.extent_shards.proofs.pushing.push_front.Goals as goal

pub returns-in-None : goal.returns-in-None
returns-in-None c =
    let lacks : LacksRoom c.args.width c.pages_behind-left.result.now c.room_behind.result c.extents.out.items c.push_next.new.out.items = search rules in
    full_without_room c.args.width c.args.bound c.args.pages.now c.extents.count c.extents.bytes c.room_behind.result c.args.out.now.items
    c.extents.out.items c.push_next.new.out.items c.extents.invariant.front c.room_behind.ensures
    (subst (λ ps. LacksRoom c.args.width ps c.room_behind.result c.extents.out.items c.push_next.new.out.items) c.pages_behind-left.ensures lacks)

pub extents-preserved : goal.extents-preserved
extents-preserved c =
    let run = c.in-Some.run' in
    let writes : WritesRun c.args.width c.pages_behind-left.result.now c.room_behind.result run.pages run.bytes c.extents.out.items c.push_next.new.out.items =
    search rules in
    let behind = subst (λ ps. WritesRun c.args.width ps c.room_behind.result run.pages run.bytes c.extents.out.items c.push_next.new.out.items)
    c.pages_behind-left.ensures writes in
    let begun = c.extents.invariant.front in
    record {
      small = small_with_room c.args.width c.args.bound c.args.pages.now c.extents.count c.extents.bytes c.room_behind.result run.pages run.bytes
          (c.extents.bytes + run.bytes) c.args.out.now.items c.extents.out.items c.push_next.new.out.items begun c.room_behind.ensures behind refl
          c.ranges.bound.fits;
      front = inr (more_with_room c.args.width c.args.bound c.args.pages.now c.extents.count c.extents.bytes c.room_behind.result run.pages run.bytes
          (c.extents.bytes + run.bytes) c.args.out.now.items c.extents.out.items c.push_next.new.out.items begun c.room_behind.ensures behind refl
          (c.extents.count + run.pages) refl);
    }

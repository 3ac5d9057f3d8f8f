use Rattle.std.proofs.Common.{◌≡◌, ℕ, ◌+◌, ◌<◌, List, length, drop, sym, ap, subst, ◌∙◌, arith}
use Rattle.std.proofs.lemmas.List.{length-set, get_or_read}
use Rattle.object_model.specs.declared.op.Op.{Op}
use Rattle.object_model.specs.declared.op.Op.TheVariants.{MkColl}
use Rattle.page_edits.specs.declared.writes.PageWrite.{PageWrite}
use Rattle.page_edits.specs.Writes.{held_old, bytes_made, op_at, after_writes, held_in, CanBeMade}
use Rattle.page_edits.proofs.Lists.{In, in_at, all_at}
use Rattle.page_edits.proofs.UnitContents.{next_write, set_held}
use Rattle.page_edits.proofs.page_bytes.contents.Goals as goal

pub loop-write-preserved : goal.loop-write-preserved
loop-write-preserved c =
    let ops : List Op = c.args.ops.now in
    let ws : List PageWrite = c.args.writes.now in
    let read = c.args.read.now in
    let w : PageWrite = c.write-item.result in
    let old : List (List ℕ) = c.loop-write.held.items in
    let now : List (List ℕ) = c.present_of.new.held.items in
    let new : List ℕ = c.in_ok-new.new in
    let i : ℕ = c.loop-write.write-index in
    let can : CanBeMade ops c.args.takings w =
    all_at (CanBeMade ops c.args.takings) ws w c.requires.can (subst (In ws) (sym c.write-item.is) (in_at ws i w c.loop-write-test.true)) in
    let within : c.write-item.result.taking < length c.present_of.new.held.items = omega (arith, can.taken, c.loop-write.invariant.count, c.present_of.ensures.count) in
    let made : c.in_ok-new.new ≡ bytes_made (op_at ops w.op) read (held_old (held_in old) w.old) w =
    c.in_ok-new.ensures
    ∙ ap (λ b. bytes_made c.index-ops-write.result read b w) c.in_ok-present.ensures.present
    ∙ ap (λ (o : Op). bytes_made o read (held_old (held_in old) w.old) w) (get_or_read ops w.op c.index-ops-write.result can.there c.index-ops-write.is MkColl) in
    record {
      held = ap (after_writes ops read (drop (i + 1) ws)) (set_held ops read old now w new within c.present_of.ensures.others made)
          ∙ sym (ap (λ l. after_writes ops read l (held_in old)) (next_write ws i w c.loop-write-test.true c.write-item.is))
          ∙ c.loop-write.invariant.held;
      count = length-set now w.taking new ∙ c.present_of.ensures.count ∙ c.loop-write.invariant.count;
    }

use Rattle.std.proofs.Common.{Err, ◌≡◌, ℕ, false, List, length, sym, ap, subst, ◌∙◌, arith}
use Rattle.block_device.specs.declared.event.Event.TheVariants.{Write}
use Rattle.meta_log.specs.declared.slot.Super.{Super}
use Rattle.meta_log.proofs.SlotLemmas.{length-super_bytes}
use Rattle.meta_log.specs.Prelude.{super_bytes}
use Rattle.log_replay.specs.Prelude.{new_super, IsLater}
use Rattle.log_replay.proofs.CallLemmas.{either_failure}
use Rattle.log_replay.proofs.ZeroLemmas.{later_same, later_call}
use Rattle.log_replay.proofs.MadeLemmas.{made}
use Rattle.log_replay.proofs.StopLemmas.{same_failure, well_none, well_after, bad_after}
use Rattle.log_replay.proofs.making.write_slot.Goals as goal

-- what is written is one unit
one_unit : (bytes : List ℕ) (s : Super) → bytes ≡ super_bytes s → length bytes ≡ 4096
one_unit bytes s is = ap length is ∙ length-super_bytes s

pub write_through-requires-clause-few : goal.write_through-requires-clause-few
write_through-requires-clause-few g c = omega (arith, one_unit c.in-Ok.bytes.items (new_super c.units.result c.args.half c.args.prefer) c.in-Ok.ensures)

pub write_through-requires-clause-whole : goal.write_through-requires-clause-whole
write_through-requires-clause-whole g c = omega (arith, one_unit c.in-Ok.bytes.items (new_super c.units.result c.args.half c.args.prefer) c.in-Ok.ensures)

pub write_through-requires-clause-inside : goal.write_through-requires-clause-inside
write_through-requires-clause-inside g c = omega (arith, c.requires.room, one_unit c.in-Ok.bytes.items (new_super c.units.result c.args.half c.args.prefer) c.in-Ok.ensures)

pub returns-clause-made : goal.returns-clause-made
returns-clause-made g c =
    let disk = g.D.Device.disk in
    let units = (disk c.args.dev.now).units in
    let is : c.in-Ok.bytes.items ≡ super_bytes (new_super units c.args.half c.args.prefer) = c.in-Ok.ensures ∙ ap (λ n. super_bytes (new_super n c.args.half c.args.prefer)) c.units.ensures.value in
    made units c.args.half c.args.prefer c.in-Ok.bytes.items is (disk c.args.dev.now) (disk c.write_through.new.dev) (disk c.flush_through.new.dev) (omega (arith, c.requires.room)) c.units.ensures.sound.size_now
    c.in_ok-write_through.ensures.ok c.in_ok-flush_through.ensures.ok

pub returns-in_err-write_through-clause-later : goal.returns-in_err-write_through-clause-later
returns-in_err-write_through-clause-later g c =
    let disk = g.D.Device.disk in
    let old = disk c.args.dev.now in
    let same : IsLater old old = later_same old c.units.ensures.sound c.requires.idle in
    let failed = c.in_err-write_through.ensures in
    either_failure (IsLater old (disk c.write_through.new.dev)) c.in_err-write_through.field-0.0
    (λ is. later_call (Write 0 c.in-Ok.bytes.items) false old old (disk c.write_through.new.dev) same (failed.fault (ap Err is)) c.write_through.ensures.sound)
    (λ is. subst (IsLater old) (sym (failed.memory (ap Err is))) same)

pub returns-in_err-write_through-clause-stops : goal.returns-in_err-write_through-clause-stops
returns-in_err-write_through-clause-stops g c is =
    let disk = g.D.Device.disk in
    let old = disk c.args.dev.now in
    bad_after _ tt old old (disk c.write_through.new.dev) (well_none old) (c.in_err-write_through.ensures.fault (ap Err (same_failure c.from_residual.result c.in_err-write_through.field-0.0 c.from_residual.ensures is)))

pub returns-in_err-flush_through-clause-stops : goal.returns-in_err-flush_through-clause-stops
returns-in_err-flush_through-clause-stops g c is =
    let disk = g.D.Device.disk in
    let old = disk c.args.dev.now in
    let mid = disk c.write_through.new.dev in
    let well = well_after _ tt old old mid (well_none old) c.in_ok-write_through.ensures.ok in
    bad_after _ tt old mid (disk c.flush_through.new.dev) well (c.in_err-flush_through.ensures.fault (ap Err (same_failure c.from_residual-in_err-flush_through.result c.in_err-flush_through.field-0.0 c.from_residual-in_err-flush_through.ensures is)))

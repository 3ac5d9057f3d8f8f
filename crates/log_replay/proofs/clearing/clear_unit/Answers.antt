use Rattle.std.proofs.Common.{◌≡◌, ℕ, ◌+◌, true, false, Err, List, length, ap, sym, subst, ◌∙◌, arith}
use Rattle.byte_maps.specs.Units.{zeros}
use Rattle.byte_maps.proofs.Prelude.{length-zeros}
use Rattle.block_device.specs.Prelude.{Disk}
use Rattle.log_replay.specs.Prelude.{Told, ClearsSoFar}
use Rattle.log_replay.proofs.CallLemmas.{either_failure}
use Rattle.log_replay.proofs.ClearLemmas.{cleared_unit, clears_one, clears_two, clears_none}
use Rattle.log_replay.proofs.clearing.clear_unit.Goals as goal

one_unit : (bytes : List ℕ) → bytes ≡ zeros 4096 → length bytes ≡ 4096
one_unit bytes is = ap length is ∙ length-zeros 4096

pub write_through-requires-clause-some : goal.write_through-requires-clause-some
write_through-requires-clause-some g c = omega (arith, one_unit c.in-Ok.bytes.items c.in-Ok.ensures)

pub write_through-requires-clause-few : goal.write_through-requires-clause-few
write_through-requires-clause-few g c = omega (arith, one_unit c.in-Ok.bytes.items c.in-Ok.ensures)

pub write_through-requires-clause-whole : goal.write_through-requires-clause-whole
write_through-requires-clause-whole g c = omega (arith, one_unit c.in-Ok.bytes.items c.in-Ok.ensures)

pub write_through-requires-clause-inside : goal.write_through-requires-clause-inside
write_through-requires-clause-inside g c = omega (arith, c.requires.inside, one_unit c.in-Ok.bytes.items c.in-Ok.ensures)

pub returns-in_default-clause-only : goal.returns-in_default-clause-only
returns-in_default-clause-only g c bytes = clears_none c.args.unit (c.args.unit + 1) bytes (g.D.Device.disk c.args.dev.now)

pub returns-in_err-write_through-clause-only : goal.returns-in_err-write_through-clause-only
returns-in_err-write_through-clause-only g c bytes =
    let disk = g.D.Device.disk in
    let old = disk c.args.dev.now in
    let new = disk c.write_through.new.dev in
    let failed = c.in_err-write_through.ensures in
    either_failure (Told (ClearsSoFar c.args.unit (c.args.unit + 1) bytes) old.history new.history) c.in_err-write_through.field-0.0
    (λ is. clears_one c.args.unit old new new false bytes (rw c.in-Ok.ensures at (failed.fault (ap Err is))))
    (λ is. subst (λ (d : Disk). Told (ClearsSoFar c.args.unit (c.args.unit + 1) bytes) old.history d.history) (sym (failed.memory (ap Err is))) (clears_none c.args.unit (c.args.unit + 1) bytes old))

pub returns-in_err-flush_through-clause-only : goal.returns-in_err-flush_through-clause-only
returns-in_err-flush_through-clause-only g c bytes =
    let disk = g.D.Device.disk in
    let old = disk c.args.dev.now in
    let mid = disk c.write_through.new.dev in
    let new = disk c.flush_through.new.dev in
    let written = rw c.in-Ok.ensures at c.in_ok-write_through.ensures.ok in
    let failed = c.in_err-flush_through.ensures in
    either_failure (Told (ClearsSoFar c.args.unit (c.args.unit + 1) bytes) old.history new.history) c.in_err-flush_through.field-0.0
    (λ is. clears_two c.args.unit old mid new false bytes written (failed.fault (ap Err is)))
    (λ is. subst (λ (d : Disk). Told (ClearsSoFar c.args.unit (c.args.unit + 1) bytes) old.history d.history) (sym (failed.memory (ap Err is)))
    (clears_one c.args.unit old mid mid true bytes written))

pub returns-clause-cleared : goal.returns-clause-cleared
returns-clause-cleared g c =
    let disk = g.D.Device.disk in
    let written = rw c.in-Ok.ensures at c.in_ok-write_through.ensures.ok in
    cleared_unit c.args.unit (disk c.args.dev.now) (disk c.write_through.new.dev) (disk c.flush_through.new.dev) c.requires.inside c.requires.sound.size_now
    written c.in_ok-flush_through.ensures.ok

pub returns-clause-only : goal.returns-clause-only
returns-clause-only g c bytes =
    let disk = g.D.Device.disk in
    let written = rw c.in-Ok.ensures at c.in_ok-write_through.ensures.ok in
    clears_two c.args.unit (disk c.args.dev.now) (disk c.write_through.new.dev) (disk c.flush_through.new.dev) true bytes written c.in_ok-flush_through.ensures.ok

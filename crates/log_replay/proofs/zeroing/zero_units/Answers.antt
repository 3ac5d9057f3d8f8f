use Rattle.std.proofs.Common.{◌≡◌, ◌*◌, false, Err, length, ap, sym, subst, ◌∙◌, arith}
use Rattle.byte_maps.proofs.Prelude.{length-zeros}
use Rattle.block_device.specs.Prelude.{Disk}
use Rattle.log_replay.specs.Prelude.{Told, ZeroesOnly}
use Rattle.log_replay.proofs.CallLemmas.{either_failure}
use Rattle.log_replay.proofs.ZeroLemmas.{not_empty, none_left, zeroed_none, zeroed_tail, run_fits, only_after, wrote_all}
use Rattle.log_replay.proofs.StopLemmas.{same_failure, well_so_far, bad_after}
use Rattle.log_replay.proofs.zeroing.zero_units.Goals as goal

pub runs-init : goal.runs-init
runs-init g c = (zeroed_none c.args.units.now (g.D.Device.disk c.args.dev.now) c.requires.sound c.requires.idle c.requires.inside, omega arith)

pub write_through-requires-clause-some : goal.write_through-requires-clause-some
write_through-requires-clause-some g c =
    let n = c.first_run-count.result in
    omega (arith, c.first_run-count.ensures.some (not_empty c.runs.rest.now _ c.is_empty.ensures c.runs-test.true), ap length c.in-Ok.ensures ∙ length-zeros (4096 * n))

pub write_through-requires-clause-few : goal.write_through-requires-clause-few
write_through-requires-clause-few g c =
    let n = c.first_run-count.result in
    omega (arith, c.first_run-count.ensures.most, ap length c.in-Ok.ensures ∙ length-zeros (4096 * n))

pub write_through-requires-clause-whole : goal.write_through-requires-clause-whole
write_through-requires-clause-whole g c =
    let n = c.first_run-count.result in
    let size : length c.in-Ok.bytes.items ≡ 4096 * n = ap length c.in-Ok.ensures ∙ length-zeros (4096 * n) in omega (arith, size)

pub write_through-requires-clause-inside : goal.write_through-requires-clause-inside
write_through-requires-clause-inside g c =
    let n = c.first_run-count.result in
    let so_far = c.runs.invariant.0 in
    let fits = run_fits c.runs.rest.now n c.first_run-count.ensures (not_empty c.runs.rest.now _ c.is_empty.ensures c.runs-test.true) (g.D.Device.disk c.args.dev.now).units so_far.below in
    omega (arith, fits, so_far.later.units, ap length c.in-Ok.ensures ∙ length-zeros (4096 * n))

pub runs-preserved : goal.runs-preserved
runs-preserved g c =
    let n = c.first_run-count.result in
    let disk = g.D.Device.disk in
    let size = c.requires.sound.size_now in (
      zeroed_tail c.runs.rest.now n c.first_run-count.ensures (not_empty c.runs.rest.now _ c.is_empty.ensures c.runs-test.true) c.args.units.now c.runs.runs (disk c.args.dev.now) (disk c.runs.dev) _ _ (omega arith) size c.runs.invariant.0
          (rw c.in-Ok.ensures at c.in_ok-write_through.ensures.ok) c.write_through.ensures.sound,
      omega (arith, c.runs.invariant.1, c.in_ok-write_through.ensures.later),
    )

pub overflow_add-runs : goal.overflow_add-runs
overflow_add-runs g c =
    let some = not_empty c.runs.rest.now _ c.is_empty.ensures c.runs-test.true in
    omega (arith, c.runs.invariant.0.few, c.requires.few, some)

pub returns-in_default-clause-only : goal.returns-in_default-clause-only
returns-in_default-clause-only g c = λ first end between. (c.runs.invariant.0.only first end between).1

pub returns-in_err-write_through-clause-only : goal.returns-in_err-write_through-clause-only
returns-in_err-write_through-clause-only g c first end between =
    let disk = g.D.Device.disk in
    let so_far = c.runs.invariant.0 in
    let was = so_far.only first end between in
    let failed = c.in_err-write_through.ensures in
    let n = c.first_run-count.result in
    either_failure (Told (ZeroesOnly first end) (disk c.args.dev.now).history (disk c.write_through.new.dev).history) c.in_err-write_through.field-0.0
    (λ is. only_after c.runs.rest.now n c.first_run-count.ensures (not_empty c.runs.rest.now _ c.is_empty.ensures c.runs-test.true) first end false
    (disk c.args.dev.now) (disk c.runs.dev) _ was (rw c.in-Ok.ensures at (failed.fault (ap Err is))))
    (λ is. subst (λ (d : Disk). Told (ZeroesOnly first end) (disk c.args.dev.now).history d.history) (sym (failed.memory (ap Err is))) was.1)

pub returns-clause-runs : goal.returns-clause-runs
returns-clause-runs g c =
    let disk = g.D.Device.disk in
    wrote_all c.args.units.now c.runs.rest.now c.runs.runs (disk c.args.dev.now) (disk c.runs.dev) (none_left c.runs.rest.now _ c.is_empty.ensures c.runs-test.false)
    c.runs.invariant.0

pub returns-clause-few : goal.returns-clause-few
returns-clause-few g c = omega (arith, c.runs.invariant.0.few)

pub returns-clause-only : goal.returns-clause-only
returns-clause-only g c = λ first end between. (c.runs.invariant.0.only first end between).1

pub returns-in_err-write_through-clause-stops : goal.returns-in_err-write_through-clause-stops
returns-in_err-write_through-clause-stops g c is =
    let disk = g.D.Device.disk in
    let old = disk c.args.dev.now in
    let mid = disk c.runs.dev in
    let so_far = well_so_far c.args.units.now c.runs.rest.now c.runs.runs old.history mid.history c.runs.invariant.0.runs in
    bad_after _ tt old mid (disk c.write_through.new.dev) so_far (c.in_err-write_through.ensures.fault (ap Err (same_failure c.from_residual.result c.in_err-write_through.field-0.0 c.from_residual.ensures is)))

use Rattle.std.proofs.Common.{◌≡◌, refl, arith, subst, ◌∙◌}
use Rattle.block_device.specs.Prelude.{IsSound, HasRead}
use Rattle.log_replay.specs.Prelude.{AddsUnits}
use Rattle.log_replay.proofs.StaleLemmas.{adds_no_units, adds_more_units, all_before}
use Rattle.log_replay.proofs.stale.add_stale_between.Goals as goal

pub pieces-init : goal.pieces-init
pieces-init g c =
    (refl, omega arith, omega arith, c.requires.order, adds_no_units (g.D.Device.disk c.args.dev.now) c.args.first c.args.stale.now.items c.requires.before)

pub add_stale-requires-clause-before : goal.add_stale-requires-clause-before
add_stale-requires-clause-before g c =
    let was = c.pieces.invariant in
    all_before (g.D.Device.disk c.args.dev.now) c.args.first c.pieces.at c.args.stale.now.items c.pieces.stale.items was.2 was.4

pub pieces-preserved : goal.pieces-preserved
pieces-preserved g c =
    let disk = g.D.Device.disk in
    let was = c.pieces.invariant in
    let read = subst (λ d. HasRead d c.pieces.at c.min-count.result c.read.new.into.items) was.0 c.in_ok-read.ensures.ok in
    let same = c.read.ensures.same ∙ was.0 in
    let sound = subst IsSound same c.read.ensures.sound in (
      same,
      omega (arith, was.1, c.read.ensures.later),
      omega (arith, was.2),
      omega (arith, c.min-count.ensures, c.pieces-test.true),
      adds_more_units (disk c.args.dev.now) c.args.first c.pieces.at c.min-count.result c.read.new.into.items c.args.stale.now.items c.pieces.stale.items _
          was.2 sound read (rw c.deref.ensures.value at c.in-Ok.ensures) was.4,
    )

pub returns-clause-stale : goal.returns-clause-stale
returns-clause-stale g c =
    let was = c.pieces.invariant in
    let end : c.pieces.at ≡ c.args.end = omega (arith, was.3, c.pieces-test.false) in
    subst (λ n. AddsUnits (g.D.Device.disk c.args.dev.now) c.args.first n c.args.stale.now.items c.pieces.stale.items) end was.4

use Rattle.std.proofs.Common.{Err, ap, ◌+◌, subst}
use Rattle.block_device.specs.Prelude.{Disk}
use Rattle.log_replay.specs.Prelude.{Told, GoesOnWell, GoesOnToBadEnd, WasZeroed}
use Rattle.log_replay.proofs.MadeLemmas.{cleared}
use Rattle.log_replay.proofs.StopLemmas.{same_failure, well_written, well_after, bad_after, stops_same, stops_bad}
use Rattle.log_replay.proofs.making.clear.Goals as goal

pub returns-clause-cleared : goal.returns-clause-cleared
returns-clause-cleared g c =
    let disk = g.D.Device.disk in
    let stale = c.in_ok-stale.stale.items in
    let zeroed = rw (c.deref.ensures.value) at c.in_ok-zero_units.ensures.zeroed in
    let told = subst (λ (d : Disk). Told (WasZeroed stale) d.history (disk c.zero_units.new.dev).history) c.stale_units.ensures.same zeroed in
    cleared (c.args.half + 2) stale (disk c.args.dev.now) (disk c.zero_units.new.dev) (disk c.flush_through.new.dev) c.in_ok-stale.ensures.stale told c.in_ok-flush_through.ensures.ok

pub returns-in_err-stale-clause-stops : goal.returns-in_err-stale-clause-stops
returns-in_err-stale-clause-stops g c is =
    let disk = g.D.Device.disk in
    stops_same (disk c.args.dev.now) (disk c.stale_units.new.dev) c.stale_units.ensures.same

pub returns-in_err-zero_units-clause-stops : goal.returns-in_err-zero_units-clause-stops
returns-in_err-zero_units-clause-stops g c is =
    let disk = g.D.Device.disk in
    let new = (disk c.zero_units.new.dev).history in
    stops_bad (disk c.args.dev.now).history new
    (subst (λ (d : Disk). Told GoesOnToBadEnd d.history new) c.stale_units.ensures.same (c.in_err-zero_units.ensures.stops (ap Err (same_failure c.from_residual-in_err-zero_units.result c.in_err-zero_units.field-0.0 c.from_residual-in_err-zero_units.ensures is))))

pub returns-in_err-flush_through-clause-stops : goal.returns-in_err-flush_through-clause-stops
returns-in_err-flush_through-clause-stops g c is =
    let disk = g.D.Device.disk in
    let old = disk c.args.dev.now in
    let mid = disk c.zero_units.new.dev in
    let well = well_written _ _ (disk c.stale_units.new.dev).history mid.history c.in_ok-zero_units.ensures.runs in
    let from = subst (λ (d : Disk). Told GoesOnWell d.history mid.history) c.stale_units.ensures.same well in
    let new = disk c.flush_through.new.dev in
    stops_bad old.history new.history (bad_after _ tt old mid new from (c.in_err-flush_through.ensures.fault (ap Err (same_failure c.from_residual-in_err-flush_through.result c.in_err-flush_through.field-0.0 c.from_residual-in_err-flush_through.ensures is))))

pub returns-clause-well : goal.returns-clause-well
returns-clause-well g c =
    let disk = g.D.Device.disk in
    let old = disk c.args.dev.now in
    let mid = disk c.zero_units.new.dev in
    let well = well_written _ _ (disk c.stale_units.new.dev).history mid.history c.in_ok-zero_units.ensures.runs in
    let from = subst (λ (d : Disk). Told GoesOnWell d.history mid.history) c.stale_units.ensures.same well in
    well_after _ tt old mid (disk c.flush_through.new.dev) from c.in_ok-flush_through.ensures.ok

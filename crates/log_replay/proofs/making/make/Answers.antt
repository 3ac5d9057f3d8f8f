use Rattle.std.proofs.Common.{Err, ap, ◌≡◌, sym, arith}
use Rattle.log_replay.proofs.MadeLemmas.{holds_empty_store}
use Rattle.log_replay.proofs.StopLemmas.{same_failure, stops_bad, bad_behind}
use Rattle.log_replay.proofs.making.make.Goals as goal

pub returns-clause-made : goal.returns-clause-made
returns-clause-made g c quiet =
    let disk = g.D.Device.disk in
    let first = c.in_ok-clear.ensures in
    let second = c.in_ok-write_slot.ensures in
    let units = (disk c.clear.new.dev).units in
    let same : units ≡ (disk c.write_slot.new.dev).units = sym second.later.units in
    holds_empty_store c.args.half c.args.prefer units (disk c.args.dev.now) (disk c.clear.new.dev) (disk c.write_slot.new.dev) c.requires.least c.requires.most c.requires.prefer
    (omega (arith, c.requires.room, first.later.units)) same second.later.idle second.later.sound first.cleared second.made quiet

pub returns-in_err-write_slot-clause-stops : goal.returns-in_err-write_slot-clause-stops
returns-in_err-write_slot-clause-stops g c is =
    let disk = g.D.Device.disk in
    let old = (disk c.args.dev.now).history in
    let mid = (disk c.clear.new.dev).history in
    let new = (disk c.write_slot.new.dev).history in
    stops_bad old new (bad_behind old mid new c.in_ok-clear.ensures.well (c.in_err-write_slot.ensures.stops (ap Err (same_failure c.from_residual-in_err-write_slot.result c.in_err-write_slot.field-0.0 c.from_residual-in_err-write_slot.ensures is))))

use Rattle.std.proofs.Common.{true, false, length, Err, ap, sym, subst, arith}
use Rattle.block_device.specs.Prelude.{Disk}
use Rattle.log_replay.specs.Prelude.{Told, ZeroesOnly}
use Rattle.log_replay.proofs.CallLemmas.{either_failure}
use Rattle.log_replay.proofs.ZeroLemmas.{not_empty}
use Rattle.log_replay.proofs.ClearLemmas.{cleared_others, only_flush}
use Rattle.log_replay.proofs.clearing.clear_others.Goals as goal

pub returns-in_err-flush_through-clause-only : goal.returns-in_err-flush_through-clause-only
returns-in_err-flush_through-clause-only g c first end between =
    let disk = g.D.Device.disk in
    let old = disk c.args.dev.now in
    let mid = disk c.zero_units.new.dev in
    let new = disk c.flush_through.new.dev in
    let only = c.in_ok-runs.ensures.only first end between in
    let failed = c.in_err-flush_through.ensures in
    either_failure (Told (ZeroesOnly first end) old.history new.history) c.in_err-flush_through.field-0.0
    (λ is. only_flush first end false old mid new only (failed.fault (ap Err is)))
    (λ is. subst (λ (d : Disk). Told (ZeroesOnly first end) old.history d.history) (sym (failed.memory (ap Err is))) only)

pub returns-clause-only : goal.returns-clause-only
returns-clause-only g c first end between =
    let disk = g.D.Device.disk in
    only_flush first end true (disk c.args.dev.now) (disk c.zero_units.new.dev) (disk c.flush_through.new.dev) (c.in_ok-runs.ensures.only first end between)
    c.in_ok-flush_through.ensures.ok

pub returns-clause-cleared : goal.returns-clause-cleared
returns-clause-cleared g c =
    let disk = g.D.Device.disk in
    let units = c.args.units.now in
    let some = not_empty units _ c.is_empty.ensures c.if-is_empty.false in
    cleared_others units c.in_ok-runs.runs (disk c.args.dev.now) (disk c.zero_units.new.dev) (disk c.flush_through.new.dev)
    (λ none. omega (arith, some, ap length none)) c.in_ok-runs.ensures.zeroed c.in_ok-runs.ensures.runs c.in_ok-flush_through.ensures.ok

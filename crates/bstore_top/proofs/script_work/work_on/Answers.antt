use Rattle.std.proofs.Common.{inl, inr}
use Rattle.bstore_top.proofs.WorkLemmas.{left_by_mount, works_mounted, run_counted, later_ran}
use Rattle.bstore_top.proofs.RunLaws.{runs_and_keeps}
use Rattle.bstore_top.proofs.Keeping.{ran_keeps, failed_keeps, mount_failed}
use Rattle.bstore_top.proofs.script_work.work_on.Goals as goal

pub returns-clause-works : goal.returns-clause-works
returns-clause-works g c =
    let reaped = c.unmount-dev.ensures.reaped in
    rw c.ended-end.ensures (inr (
      run_counted c.run_scripts-ran.result c.free_units.result _ _ _ _ c.run_scripts-ran.ensures.cause c.run_scripts-ran.ensures.read_cause
          c.in-Ok.ensures.later c.unmount-dev.ensures.later,
      runs_and_keeps _ _ _ _ _ _ (works_mounted _ _ _ c.in-Ok.ensures.ok.0 c.in-Ok.ensures.ok.1.0 _ _ _ _ _ _
          (record { mounted = c.in-Ok.ensures.ok.1.1; kept = c.in-Ok.ensures.kept; durable = c.in-Ok.ensures.keeps })
          (record { closed = reaped.0; reaped = reaped.1.0; book_is = reaped.1.1; same = c.unmount-dev.ensures.book })
          c.run_scripts-ran.result c.free_units.result c.run_scripts-ran.ensures.ran c.free_units.ensures),
    ))

pub returns-clause-later : goal.returns-clause-later
returns-clause-later g c = later_ran c.run_scripts-ran.result _ _ _ _ _ _ _ _ c.run_scripts-ran.ensures.ran c.in-Ok.ensures.ok.1.1.later
    c.unmount-dev.ensures.same

pub returns-clause-keeps : goal.returns-clause-keeps
returns-clause-keeps g c sound fresh =
    let reaped = c.unmount-dev.ensures.reaped in
    rw c.ended-end.ensures (ran_keeps _ _ _ _ _ _ fresh (returns-clause-later g c)
    (works_mounted _ _ _ c.in-Ok.ensures.ok.0 c.in-Ok.ensures.ok.1.0 _ _ _ _ _ _
    (record { mounted = c.in-Ok.ensures.ok.1.1; kept = c.in-Ok.ensures.kept; durable = c.in-Ok.ensures.keeps })
    (record { closed = reaped.0; reaped = reaped.1.0; book_is = reaped.1.1; same = c.unmount-dev.ensures.book })
    c.run_scripts-ran.result c.free_units.result c.run_scripts-ran.ensures.ran c.free_units.ensures))

pub returns-in-Err-clause-works : goal.returns-in-Err-clause-works
returns-in-Err-clause-works g c =
    let before = g.D.Device.faults c.args.dev in
    let now = g.D.Device.faults c.in-Err.dev in
    let given = g.D.Device.disk c.args.dev in
    inl (
      mount_failed c.in-Err.fail c.unmounted.result given before now c.unmounted.ensures c.in-Err.ensures.fails,
      c.new.ensures.empty,
      rw c.unmounted.ensures (left_by_mount c.in-Err.fail given (g.D.Device.disk c.in-Err.dev) c.in-Err.ensures.same c.in-Err.ensures.writes
          c.in-Err.ensures.back),
    )

pub returns-in-Err-clause-keeps : goal.returns-in-Err-clause-keeps
returns-in-Err-clause-keeps g c sound fresh =
    let before = g.D.Device.faults c.args.dev in
    let now = g.D.Device.faults c.in-Err.dev in
    let given = g.D.Device.disk c.args.dev in
    failed_keeps given (g.D.Device.disk c.in-Err.dev) c.unmounted.result c.new.result before now fresh
    (mount_failed c.in-Err.fail c.unmounted.result given before now c.unmounted.ensures c.in-Err.ensures.fails) c.new.ensures.empty
    c.in-Err.ensures.durable

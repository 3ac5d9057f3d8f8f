use Rattle.std.proofs.Common.{[], inl, inr, refl, sym, subst, ◌∙◌}
use Rattle.bstore_top.proofs.WorkLemmas.{left_by_mount}
use Rattle.bstore_top.proofs.Keeping.{mount_failed}
use Rattle.bstore_top.specs.Prelude.{FailsToMount}
use Rattle.bstore_top.proofs.DumpWalks.{no_walk, at_end_by}
use Rattle.bstore_top.proofs.DumpKept.{opened_empty, unmounted_shows, stays_durable, cut_by_sink, walk_counted, later_unmounted, durable_unmounted, store_walked, walk_shows}
use Rattle.bstore_top.proofs.dump_work.dump_on.Goals as goal

pub walk_store-walked-requires-clause-nothing : goal.walk_store-walked-requires-clause-nothing
walk_store-walked-requires-clause-nothing g c =
    opened_empty _ c.in-Ok.ensures.ok.0 c.in-Ok.ensures.ok.1.0 _ _ c.in-Ok.ensures.ok.1.1

pub returns-in-Err-clause-durable : goal.returns-in-Err-clause-durable
returns-in-Err-clause-durable g c sound fresh =
    stays_durable (g.D.Device.disk c.args.dev) (g.D.Device.disk c.in-Err.dev) fresh c.in-Err.ensures.durable

pub returns-in-Err-clause-prints : goal.returns-in-Err-clause-prints
returns-in-Err-clause-prints g c =
    let before = g.D.Device.faults c.args.dev in
    let now = g.D.Device.faults c.in-Err.dev in
    let given = g.D.Device.disk c.args.dev in
    let failed = mount_failed c.in-Err.fail c.unmounted.result given before now c.unmounted.ensures c.in-Err.ensures.fails in
    record {
      colls = [];
      dumps = inl (
        failed,
        refl,
        rw c.unmounted.ensures (left_by_mount c.in-Err.fail given (g.D.Device.disk c.in-Err.dev) c.in-Err.ensures.same c.in-Err.ensures.writes
            c.in-Err.ensures.back),
      );
      shows = λ sound fresh. unmounted_shows c.unmounted.result given before now [] failed refl;
      printed = no_walk c.args.text.now _;
      cut = λ is. absurd (subst (λ end. FailsToMount end given before now) is failed);
    }

pub returns-clause-prints : goal.returns-clause-prints
returns-clause-prints g c =
    let walk = c.walk_store-walked in
    let reaped = c.unmount-dev.ensures.reaped in
    let seen = walk.ensures.prints in
    let all = at_end_by _ walk.result _ _ c.has_failed.ensures seen.all in
    record {
      colls = seen.colls;
      dumps = rw c.ended-end.ensures (inr (
        walk_counted walk.result c.has_failed.result c.free_units.result _ _ _ _ walk.ensures.fails walk.ensures.cause c.in-Ok.ensures.later c.unmount-dev.ensures.later,
        store_walked _ c.in-Ok.ensures.ok.0 c.in-Ok.ensures.ok.1.0 _ _ c.in-Ok.ensures.ok.1.1 _ _ _ reaped.0 walk.ensures.same walk.ensures.disk
            reaped.1.0 walk.result c.has_failed.result c.free_units.result seen.colls walk.ensures.fails seen.walked all,
      ));
      shows = λ sound fresh h objects told stands.
          rw c.ended-end.ensures (walk_shows _ c.in-Ok.ensures.ok.0 c.in-Ok.ensures.ok.1.0 _ _ c.in-Ok.ensures.ok.1.1 c.in-Ok.ensures.kept
          c.in-Ok.ensures.keeps fresh h objects told stands walk.result c.has_failed.result c.free_units.result seen.colls seen.walked all);
      printed = seen.printed;
      cut = λ is. sym c.has_failed.ensures ∙ cut_by_sink walk.result c.has_failed.result c.free_units.result (sym c.ended-end.ensures ∙ is);
    }

pub returns-clause-durable : goal.returns-clause-durable
returns-clause-durable g c sound fresh =
    let walk = c.walk_store-walked in
    let reaped = c.unmount-dev.ensures.reaped in
    durable_unmounted _ c.in-Ok.ensures.ok.0 c.in-Ok.ensures.ok.1.0 _ _ c.in-Ok.ensures.ok.1.1 _ _ _ reaped.0 walk.ensures.same walk.ensures.disk
    reaped.1.0 fresh c.in-Ok.ensures.durable

pub returns-clause-later : goal.returns-clause-later
returns-clause-later g c =
    let walk = c.walk_store-walked in
    let reaped = c.unmount-dev.ensures.reaped in
    later_unmounted _ c.in-Ok.ensures.ok.0 c.in-Ok.ensures.ok.1.0 _ _ c.in-Ok.ensures.ok.1.1 _ _ _ reaped.0 walk.ensures.same walk.ensures.disk
    reaped.1.0

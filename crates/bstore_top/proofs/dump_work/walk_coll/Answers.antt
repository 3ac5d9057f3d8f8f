use Rattle.std.proofs.Common.{refl, arith, ap, sym, ◌∙◌}
use Rattle.std.specs.Option.{option_copied}
use Rattle.meta_log.specs.Prelude.{width_of}
use Rattle.store_steps.specs.Prelude.{memory_of}
use Rattle.bstore_top.proofs.DumpWalks.{view_found, no_objects, object_printed, cut_printed, fewer_objects}
use Rattle.bstore_top.proofs.dump_work.walk_coll.Goals as goal

pub objects-init : goal.objects-init
objects-init g c = record {
  same = refl;
  disk = refl;
  faults = omega arith;
  printed = no_objects (width_of c.args.kernel.now.state.log.sup) (g.D.Device.disk c.args.kernel.now.device) c.args.kernel.now.state.submitted _ _ _ _
      c.args.coll.now c.push_coll.ensures;
}

pub objects-preserved : goal.objects-preserved
objects-preserved g c =
    let inv = c.objects.invariant in
    let w = width_of c.args.kernel.now.state.log.sup in
    let d = g.D.Device.disk c.args.kernel.now.device in
    let rows = c.args.kernel.now.state.submitted in
    record {
      same = c.next_object.ensures.same ∙ inv.same;
      disk = c.next_object.ensures.disk ∙ inv.disk;
      faults = omega (arith, inv.faults, c.next_object.ensures.later);
      printed = object_printed w d rows c.args.coll.now c.objects.last c.in-Some.object inv.printed
          (view_found w _ d _ rows _ c.args.coll.now c.in_ok-object.field-0 (option_copied c.as_ref.result) c.objects.last c.in-Some.object
          (ap memory_of inv.same ∙ c.requires.nothing) inv.disk (ap (λ s. s.submitted) inv.same) c.as_ref.ensures.value c.in-Some.is
          c.in_ok-object.ensures.ok) c.push_object.ensures;
    }

pub objects-smaller : goal.objects-smaller
objects-smaller g c =
    let inv = c.objects.invariant in
    let w = width_of c.args.kernel.now.state.log.sup in
    let d = g.D.Device.disk c.args.kernel.now.device in
    let rows = c.args.kernel.now.state.submitted in
    let next = view_found w _ d _ rows _ c.args.coll.now c.in_ok-object.field-0 (option_copied c.as_ref.result) c.objects.last c.in-Some.object
    (ap memory_of inv.same ∙ c.requires.nothing) inv.disk (ap (λ s. s.submitted) inv.same) c.as_ref.ensures.value c.in-Some.is
    c.in_ok-object.ensures.ok in
    fewer_objects rows c.args.coll.now c.objects.last c.in-Some.object.name inv.printed.there next.next

pub returns-clause-prints : goal.returns-clause-prints
returns-clause-prints g c =
    cut_printed (width_of c.args.kernel.now.state.log.sup) (g.D.Device.disk c.args.kernel.now.device) c.args.kernel.now.state.submitted _ _ _ _
    c.args.coll.now c.objects.last _ (sym c.has_failed.ensures ∙ c.objects-test.false) c.objects.invariant.printed

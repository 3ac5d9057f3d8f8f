use Rattle.std.proofs.Common.{refl, arith, ap, sym, ◌∙◌}
use Rattle.std.specs.Option.{option_copied}
use Rattle.std.proofs.lemmas.Result.{err_from_is_err_and}
use Rattle.meta_log.specs.Prelude.{width_of}
use Rattle.store_steps.specs.Prelude.{memory_of}
use Rattle.bstore_top.proofs.DumpWalks.{coll_found, none_behind, no_colls, coll_printed, last_printed, walk_failed, walk_ended, coll_at, fewer_colls}
use Rattle.bstore_top.proofs.dump_work.walk_store.Goals as goal

pub colls-init : goal.colls-init
colls-init g c = record {
  same = refl;
  disk = refl;
  faults = omega arith;
  printed = no_colls (width_of c.args.kernel.now.state.log.sup) (g.D.Device.disk c.args.kernel.now.device) c.args.kernel.now.state.submitted
      c.args.text.now _;
}

pub walk_coll-requires-clause-nothing : goal.walk_coll-requires-clause-nothing
walk_coll-requires-clause-nothing g c = ap memory_of c.colls.invariant.same ∙ c.requires.nothing

pub colls-preserved : goal.colls-preserved
colls-preserved g c =
    let inv = c.colls.invariant in
    let s = c.args.kernel.now.state in
    let d = g.D.Device.disk c.args.kernel.now.device in
    let next = coll_found s.submitted _ c.in_ok-coll.field-0 (option_copied c.as_ref.result) c.colls.last c.in-Some.coll
    (ap (λ s. s.submitted) inv.same) c.as_ref.ensures.value c.in-Some.is c.in_ok-coll.ensures.ok in
    record {
      same = c.walk_coll.ensures.same ∙ inv.same;
      disk = c.walk_coll.ensures.disk ∙ inv.disk;
      faults = omega (arith, inv.faults, c.walk_coll.ensures.later);
      printed = coll_printed (width_of s.log.sup) d s.submitted c.colls.last c.in-Some.coll _ inv.printed next
          (sym c.has_failed.ensures ∙ c.if-has_failed.false) (coll_at s _ d _ c.in-Some.coll _ _ _ _ _ inv.same inv.disk c.in_ok-walk_coll.ensures.prints);
    }

pub colls-smaller : goal.colls-smaller
colls-smaller g c =
    let inv = c.colls.invariant in
    let s = c.args.kernel.now.state in
    let next = coll_found s.submitted _ c.in_ok-coll.field-0 (option_copied c.as_ref.result) c.colls.last c.in-Some.coll
    (ap (λ s. s.submitted) inv.same) c.as_ref.ensures.value c.in-Some.is c.in_ok-coll.ensures.ok in
    fewer_colls s.submitted c.colls.last c.in-Some.coll inv.printed.there next

pub returns-in_err-walk_coll-clause-prints : goal.returns-in_err-walk_coll-clause-prints
returns-in_err-walk_coll-clause-prints g c =
    let inv = c.colls.invariant in
    let s = c.args.kernel.now.state in
    let d = g.D.Device.disk c.args.kernel.now.device in
    let next = coll_found s.submitted _ c.in_ok-coll.field-0 (option_copied c.as_ref.result) c.colls.last c.in-Some.coll
    (ap (λ s. s.submitted) inv.same) c.as_ref.ensures.value c.in-Some.is c.in_ok-coll.ensures.ok in
    let p = err_from_is_err_and c.from_residual-in_err-walk_coll.result c.from_residual-in_err-walk_coll.ensures.1 in
    rw (p.1, p.2) (last_printed (width_of s.log.sup) d s.submitted c.colls.last c.in-Some.coll _ tt inv.printed next
    (coll_at s _ d _ c.in-Some.coll _ _ _ _ _ inv.same inv.disk c.in_err-walk_coll.ensures.prints))

pub returns-in_err-coll-clause-prints : goal.returns-in_err-coll-clause-prints
returns-in_err-coll-clause-prints g c =
    let p = err_from_is_err_and c.from_residual.result c.from_residual.ensures.1 in
    rw p.1 (walk_failed (width_of c.args.kernel.now.state.log.sup) (g.D.Device.disk c.args.kernel.now.device) c.args.kernel.now.state.submitted
    _ _ _ _ c.colls.last _ c.colls.invariant.printed)

pub returns-clause-prints : goal.returns-clause-prints
returns-clause-prints g c =
    let inv = c.colls.invariant in
    let s = c.args.kernel.now.state in
    walk_ended (width_of s.log.sup) (g.D.Device.disk c.args.kernel.now.device) s.submitted _ _ _ _ c.colls.last _ inv.printed
    (none_behind s.submitted _ c.in_ok-coll.field-0 (option_copied c.as_ref.result) c.colls.last (ap (λ s. s.submitted) inv.same)
    c.as_ref.ensures.value c.in_default.is c.in_ok-coll.ensures.ok)

pub returns-then-has_failed-clause-prints : goal.returns-then-has_failed-clause-prints
returns-then-has_failed-clause-prints g c =
    let inv = c.colls.invariant in
    let s = c.args.kernel.now.state in
    let d = g.D.Device.disk c.args.kernel.now.device in
    let next = coll_found s.submitted _ c.in_ok-coll.field-0 (option_copied c.as_ref.result) c.colls.last c.in-Some.coll
    (ap (λ s. s.submitted) inv.same) c.as_ref.ensures.value c.in-Some.is c.in_ok-coll.ensures.ok in
    let failed = sym c.has_failed.ensures ∙ c.if-has_failed.true in
    last_printed (width_of s.log.sup) d s.submitted c.colls.last c.in-Some.coll _ (λ good. absurd cc) inv.printed next
    (coll_at s _ d _ c.in-Some.coll _ _ _ _ _ inv.same inv.disk c.in_ok-walk_coll.ensures.prints)

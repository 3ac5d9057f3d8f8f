use Rattle.std.proofs.Common.{◌≤◌, sym, subst, arith}
use Rattle.meta_log.specs.Prelude.{IsSuper, next_super, check_units}
use Rattle.meta_log.proofs.RunLemmas.{runs_end_below}
use Rattle.meta_store.specs.Store.{Meta}
use Rattle.meta_store.proofs.HoldsLemmas.{can_open}
use Rattle.meta_store.proofs.store.MetaStore.begin_check.Goals as goal

pub begin-requires-clause-sealable : goal.begin-requires-clause-sealable
begin-requires-clause-sealable c =
    can_open c.self.inside c.self.invariant (subst (λ (m : Meta). IsSuper (next_super m.sup m.number)) (sym c.self.view_is) c.requires.limits)
    (subst (λ (m : Meta). check_units m.number m.rows ≤ m.sup.half) (sym c.self.view_is) c.requires.fits)

pub begin-requires-clause-ends : goal.begin-requires-clause-ends
begin-requires-clause-ends c =
    let known = c.self.invariant.known in
    rw c.deref.ensures.value (runs_end_below 0 c.self.inside.sup.half c.self.inside.stale.items (omega (arith, known.limits.half_most)) known.stale_fits)

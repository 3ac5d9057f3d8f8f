use Rattle.std.proofs.Common.{◌+◌, ◌≤◌, ◌∙◌, List, length, ap, sym, subst}
use Rattle.meta_rows.specs.declared.row_op.RowOp.{RowOp}
use Rattle.meta_log.specs.Prelude.{sealed_units}
use Rattle.meta_store.specs.Store.{Meta}
use Rattle.meta_store.proofs.HoldsLemmas.{none_checked, record_begun}
use Rattle.meta_store.proofs.store.MetaStore.begin.Goals as goal

pub invariant_of-self : goal.invariant_of-self
invariant_of-self c =
    let a = c.self.inside in
    let sealed = c.args.sealed in
    let rows = c.reserve.new.self in
    record_begun a rows sealed c.self.invariant (none_checked a.check (ap (λ (m : Meta). m.check) c.self.view_is ∙ c.requires.resting)) c.in-Ok.ensures.rows
    (subst (λ (ops : List RowOp). length ops ≤ rows.room) c.ops.ensures c.in-Ok.ensures.ok)
    (c.requires.next ∙ sym (ap (λ (m : Meta). m.number) c.self.view_is)) c.units-units.ensures.sealable
    (subst (λ (m : Meta). m.tail + sealed_units sealed ≤ m.sup.half) (sym c.self.view_is) c.requires.fits)

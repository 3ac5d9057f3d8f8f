use Rattle.std.proofs.Common.{◌+◌, ◌∙◌, ap, sym}
use Rattle.meta_rows.specs.Prelude.{rows_after}
use Rattle.meta_store.proofs.HoldsLemmas.{record_done}
use Rattle.meta_store.proofs.store.MetaStore.flushed.Goals as goal

pub invariant_of-self : goal.invariant_of-self
invariant_of-self c =
    let a = c.self.inside in
    rw c.take.ensures.after (record_done a c.in-Some.begun c.apply.new.self (a.tail + c.units.result) c.self.invariant
    (sym c.take.ensures.value ∙ c.in-Some.is) (c.apply.ensures.rows ∙ ap (rows_after a.rows.rows) c.into_ops.ensures)
    (ap (λ u. a.tail + u) c.units.ensures.units))

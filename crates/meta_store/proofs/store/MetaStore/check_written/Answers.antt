use Rattle.std.proofs.Common.{sym, subst}
use Rattle.meta_store.specs.Checks.{IsCheckOut}
use Rattle.meta_store.proofs.HoldsLemmas.{check_written_on}
use Rattle.meta_store.proofs.store.MetaStore.check_written.Goals as goal
use Rattle.meta_store.proofs.store.MetaStore.check_written.Goals.{in-Some, in_default}

pub invariant_of-self : goal.invariant_of-self
invariant_of-self c =
    let a = c.self.inside in
    let ready = subst IsCheckOut (sym c.self.view_is) c.requires in
    elim c.match-self.branch [
      | in-Some w ↦ rw w.self-inside-is (check_written_on a w.in-Some.check c.self.invariant w.in-Some.is ready)
      | in_default w ↦ rw w.self-inside-is c.self.invariant
    ]

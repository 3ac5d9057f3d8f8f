use Rattle.std.proofs.Common.{sym, subst}
use Rattle.meta_store.specs.Store.{IsPieceLeft}
use Rattle.meta_store.proofs.HoldsLemmas.{given_on}
use Rattle.meta_store.proofs.store.MetaStore.note_given.Goals as goal
use Rattle.meta_store.proofs.store.MetaStore.note_given.Goals.{in-Some, in_default}

pub invariant_of-self : goal.invariant_of-self
invariant_of-self c =
    let a = c.self.inside in
    let ready = subst IsPieceLeft (sym c.self.view_is) c.requires in
    elim c.match-self.branch [
      | in-Some w ↦ rw w.self-inside-is (given_on a w.in-Some.begun c.self.invariant w.in-Some.is ready)
      | in_default w ↦ rw w.self-inside-is c.self.invariant
    ]

use Rattle.std.proofs.Common.{sym, subst}
use Rattle.meta_store.specs.Store.{Meta}
use Rattle.meta_store.specs.Checks.{IsCheckLeft, IsLeftThen}
use Rattle.meta_store.proofs.HoldsLemmas.{check_given}
use Rattle.meta_store.proofs.store.MetaStore.note_check_given.Goals as goal
use Rattle.meta_store.proofs.store.MetaStore.note_check_given.Goals.{in-Some, in_default+in-Some-1, in_default+in-None-1}

pub invariant_of-self : goal.invariant_of-self
invariant_of-self c =
    let a = c.self.inside in
    let ready = subst IsCheckLeft (sym c.self.view_is) c.requires.some in
    let left = subst (λ (m : Meta). IsLeftThen m c.args.left) (sym c.self.view_is) c.requires.left in
    elim c.match-self.branch [
      | in-Some w ↦ rw w.self-inside-is (check_given a w.in-Some.check c.args.left c.self.invariant w.in-Some.is ready left)
      | in_default+in-Some-1 w ↦ rw w.self-inside-is c.self.invariant
      | in_default+in-None-1 w ↦ rw w.self-inside-is c.self.invariant
    ]

use Rattle.std.proofs.Common.{◌+◌, ◌∙◌, ap, sym}
use Rattle.meta_store.specs.Checks.{switched_log}
use Rattle.meta_store.proofs.HoldsLemmas.{switch_seen, switch_holds}
use Rattle.meta_store.proofs.store.MetaStore.switch.Goals as goal

pub invariant_of-self : goal.invariant_of-self
invariant_of-self c =
    let a = c.self.inside in
    rw c.take.ensures.after (switch_holds a c.in-Some.check c.next-self-inside.result c.close-units.result.0 (a.number + c.from.result) c.close-units.result.1 c.self.invariant
    (sym c.take.ensures.value ∙ c.in-Some.is) c.next-self-inside.ensures c.close-units.ensures.units c.close-units.ensures.behind)

pub returns-in-Some : goal.returns-in-Some
returns-in-Some c =
    let a = c.self.inside in
    rw c.take.ensures.after (switch_seen a c.in-Some.check c.next-self-inside.result c.close-units.result.0 (a.number + c.from.result) c.close-units.result.1 c.self.invariant
    (sym c.take.ensures.value ∙ c.in-Some.is) c.next-self-inside.ensures c.close-units.ensures.units c.close-units.ensures.behind
    (ap (λ n. a.number + n) (c.from.ensures ∙ c.min.ensures)) ∙ ap switched_log c.self.view_is)

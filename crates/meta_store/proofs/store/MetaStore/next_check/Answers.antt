use Rattle.std.proofs.Common.{◌+◌, ◌∙◌, ap, sym, subst, arith}
use Rattle.meta_store.specs.Store.{Meta}
use Rattle.meta_store.specs.Checks.{IsNextCheck, LiesInOtherHalf}
use Rattle.meta_store.proofs.PieceLemmas.{next_run, next_check_is, other_below, next_lies}
use Rattle.meta_store.proofs.store.MetaStore.next_check.Goals as goal

pub overflow_add-other_unit : goal.overflow_add-other_unit
overflow_add-other_unit c =
    let a = c.self.inside in
    let run = c.in-Some-next_run.run' in
    let bytes = c.in_ok-bytes.bytes.items in
    let held = next_run a c.in-Some.check run bytes c.self.invariant c.in-Some.is (sym c.in-Some-next_run.ensures) c.in_ok-bytes.ensures.bytes in
    omega (arith, other_below a run bytes c.other_unit.result c.self.invariant held c.other_unit.ensures)

pub returns-clause-next : goal.returns-clause-next
returns-clause-next c =
    let a = c.self.inside in
    let run = c.in-Some-next_run.run' in
    let bytes = c.in_ok-bytes.bytes.items in
    subst (λ (m : Meta). IsNextCheck m c.new-unit.result bytes) c.self.view_is
    (next_check_is a c.in-Some.check run bytes c.self.invariant c.in-Some.is (sym c.in-Some-next_run.ensures) c.in_ok-bytes.ensures.bytes
    c.new-unit.result (c.new-unit.ensures ∙ ap (λ u. u + run.first) c.other_unit.ensures))

pub returns-clause-place : goal.returns-clause-place
returns-clause-place c =
    let a = c.self.inside in
    let run = c.in-Some-next_run.run' in
    let bytes = c.in_ok-bytes.bytes.items in
    subst (λ (m : Meta). LiesInOtherHalf m c.new-unit.result bytes) c.self.view_is
    (next_lies a run c.new-unit.result bytes
    (next_run a c.in-Some.check run bytes c.self.invariant c.in-Some.is (sym c.in-Some-next_run.ensures) c.in_ok-bytes.ensures.bytes)
    (c.new-unit.ensures ∙ ap (λ u. u + run.first) c.other_unit.ensures))

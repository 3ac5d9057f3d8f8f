use Rattle.std.proofs.Common.{T, ap, sym, subst, ◌∙◌}
use Rattle.std.specs.FinMap.{find, is_sorted}
use Rattle.byte_maps.specs.ByteMap.{byte_order}
use Rattle.row_changes.proofs.Ahead.{value_first, none_before, first_goes}
use Rattle.row_changes.proofs.difference.value_by_first.Goals as goal

pub returns-in-Equal-clause-value : goal.returns-in-Equal-clause-value
returns-in-Equal-clause-value c = sym (ap (find byte_order c.args.key.now) (sym c.again-rest.ensures ∙ c.in-Some.ensures.steps)
    ∙ value_first c.args.key.now c.in-Some.field-0.now c.next.new.self (ap (λ k. byte_order k c.args.key.now) (sym c.as_slice.ensures) ∙ sym c.byte_order.ensures ∙ c.in-Equal.is))

pub returns-in-Less-clause-left : goal.returns-in-Less-clause-left
returns-in-Less-clause-left c = first_goes c.args.key.now c.in-Some.field-0.now c.args.ahead.now c.next.new.self c.requires
    (sym c.again-rest.ensures ∙ c.in-Some.ensures.steps)
    (ap (λ k. byte_order k c.args.key.now) (sym c.as_slice.ensures) ∙ sym c.byte_order.ensures ∙ c.in-Less.is)

pub returns-in-Greater-clause-value : goal.returns-in-Greater-clause-value
returns-in-Greater-clause-value c =
    let is = sym c.again-rest.ensures ∙ c.in-Some.ensures.steps in
    sym (ap (find byte_order c.args.key.now) is
    ∙ none_before c.args.key.now c.in-Some.field-0.now c.next.new.self (subst (λ es. T (is_sorted byte_order es)) is c.requires)
    (ap (λ k. byte_order k c.args.key.now) (sym c.as_slice.ensures) ∙ sym c.byte_order.ensures ∙ c.in-Greater.is))

use Rattle.std.proofs.Common.{rules, sym, ap, subst, ◌∙◌}
use Rattle.std.specs.Prelude.{is_some}
use Rattle.unit_fields.specs.Prelude.{IsName}
use Rattle.txn_planner.proofs.steps.check_object.Goals as goal
use Rattle.txn_planner.proofs.steps.check_object.Goals.{else-needs_object-via-then-needs_object+in_ok-has_object+else-not-branch, else-needs_object-via-else-needs_object}

pub returns-then-not-branch-clause-fail : goal.returns-then-not-branch-clause-fail
returns-then-not-branch-clause-fail c = (
  search rules,
  search rules,
  search rules,
  λ w layouts d is have.
      ap (λ o. is_some (d.layout o)) (sym c.object_in.ensures.object)
      ∙ sym (c.in_ok-has_object.ensures w layouts d is (have c.object_in.result.now
      (subst IsName (sym c.object_in.ensures.object) c.object_in.ensures.named)))
      ∙ c.if-not-branch.true,
)

pub returns-clause-ok : goal.returns-clause-ok
returns-clause-ok c = record {
  there = search rules;
  within = search rules;
  found = λ needs width layouts d is have. elim c.else-needs_object.branch [
    | else-needs_object-via-then-needs_object+in_ok-has_object+else-not-branch w ↦
        ap (λ o. is_some (d.layout o)) (sym w.object_in.ensures.object)
        ∙ sym (w.in_ok-has_object.ensures width layouts d is (have w.object_in.result.now
        (subst IsName (sym w.object_in.ensures.object) w.object_in.ensures.named)))
        ∙ w.if-not-branch.false
    | else-needs_object-via-else-needs_object w ↦ absurd (search rules)
  ];
}

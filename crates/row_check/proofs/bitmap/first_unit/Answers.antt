use Rattle.std.proofs.Common.{◌≡◌, ℕ, List, [], ap, subst, sym, ◌∙◌, arith}
use Rattle.findings.specs.Findings.{SlotCount}
use Rattle.row_check.specs.Least.{IsLeastUnit, IsUnitOfSlots}
use Rattle.row_check.proofs.SlotUnits.{front_least, none_of_none}
use Rattle.row_check.proofs.bitmap.first_unit.Goals as goal

pub returns-in-len1-up : goal.returns-in-len1-up
returns-in-len1-up c =
    let xs = c.args.counts.now in
    subst (IsLeastUnit (IsUnitOfSlots xs)) (sym (ap (λ (x : SlotCount). x.unit) (c.first.view_is ∙ c.first-item.is)))
    (front_least xs c.first-item.result (omega (arith, c.in-len1-up.len_at_least)) c.requires)

pub returns-in-empty : goal.returns-in-empty
returns-in-empty c = none_of_none c.args.counts.now (omega (arith, c.in-empty.len_below))

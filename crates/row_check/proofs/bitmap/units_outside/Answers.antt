use Rattle.std.proofs.Common.{◌<◌, ℕ, List, sym, subst}
use Rattle.std.proofs.lemmas.Result.{IfOk-weaker}
use Rattle.ordered_lists.specs.Lists.{ListsAll}
use Rattle.row_check.specs.Least.{IsOnlyIn}
use Rattle.row_check.proofs.UnitLists.{outside_lists, same_lists_none}
use Rattle.row_check.proofs.bitmap.units_outside.Goals as goal

pub returns-then-are_same : goal.returns-then-are_same
returns-then-are_same c =
    subst (λ (l : List ℕ). ListsAll (λ a b. a < b) (IsOnlyIn c.args.units.now c.args.others.now) l) (sym c.new.ensures.items)
    (same_lists_none c.args.units.now c.args.others.now (c.are_same.ensures c.if-are_same.true))

pub returns : goal.returns
returns c =
    IfOk-weaker c.those_outside.result _ _
    (λ v is. subst (λ (l : List ℕ). ListsAll (λ a b. a < b) (IsOnlyIn c.args.units.now c.args.others.now) l) (sym is)
    (outside_lists c.as_slice.result.now c.args.units.now c.args.others.now c.as_slice.ensures.units c.as_slice.ensures.ascending))
    c.those_outside.ensures

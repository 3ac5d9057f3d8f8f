use Rattle.std.proofs.Common.{◌<◌, ℕ, List, sym, subst}
use Rattle.std.proofs.lemmas.Result.{IfOk-weaker}
use Rattle.ordered_lists.specs.Lists.{ListsAll}
use Rattle.bitmap_freelist.specs.Bitmap.{Has}
use Rattle.row_check.proofs.UnitLists.{set_lists}
use Rattle.row_check.proofs.bitmap.units_in.Goals as goal

pub returns : goal.returns
returns c =
    IfOk-weaker c.copy_of.result _ _
    (λ v is. subst (λ (l : List ℕ). ListsAll (λ a b. a < b) (Has c.args.units.now) l) (sym is)
    (set_lists c.as_slice.result.now c.args.units.now c.as_slice.ensures.units c.as_slice.ensures.ascending))
    c.copy_of.ensures

use Rattle.row_check.specs.Least.{IsLeastOf, IsOnlyIn, IsUnitOfSlots, IsWrong, lesser_of}
use Rattle.bitmap_freelist.specs.Bitmap.{Has}
use Rattle.std.proofs.Common.{◌⊎◌, ℕ, sym, subst}
use Rattle.row_check.proofs.LeastUnits.{least_of_two}
use Rattle.row_check.proofs.bitmap.least_wrong.Goals as goal

pub returns : goal.returns
returns c =
    let owned = c.args.owners.now.owned in
    let shared = c.args.owners.now.shared in
    let marked = c.args.marked.now in
    let counts = c.args.counts.now in
    let second = subst (IsLeastOf (λ u. Has shared u ⊎ IsUnitOfSlots counts u)) (sym c.lesser.ensures)
    (least_of_two (Has shared) (IsUnitOfSlots counts) c.least.result c.first_unit.result c.least.ensures c.first_unit.ensures) in
    subst (IsLeastOf (IsWrong owned shared marked counts)) (sym c.lesser-2.ensures)
    (least_of_two (IsOnlyIn owned marked) (λ u. Has shared u ⊎ IsUnitOfSlots counts u) c.least_outside.result c.lesser.result c.least_outside.ensures second)

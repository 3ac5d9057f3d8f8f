-- A test for the same bytes is the one of plain objects.
use Rattle.std.proofs.Common.{◌≡◌, ℕ, Bool, List, nat_eq, ◌∙◌}
use Rattle.std.specs.Cmp.Lexicographic.{pointwise, texts_ties}
use Rattle.object_model.specs.Prelude.{is_same}

pub same_as : (r : Bool) (xs ys : List ℕ) → r ≡ pointwise nat_eq xs ys → r ≡ is_same xs ys
same_as r xs ys is = is ∙ texts_ties xs ys

use Rattle.std.proofs.Common.{◌≡◌, ◌≤◌, ◌↔◌, true, subst, ◌∙◌}
use Rattle.std.specs.List.{AllByRecursion}
use Rattle.row_format.specs.Prelude.{page_end}
use Rattle.store_image.specs.Prelude.{pages_of}
use Rattle.row_check.proofs.Ascending.{pages_ceil}
use Rattle.row_check.proofs.in_place.are_within_size.Goals as goal

pub returns : goal.returns
returns c =
    let limit : c.div_ceil.result ≡ pages_of c.args.size = c.div_ceil.ensures ∙ pages_ceil c.args.size in
    subst (λ n. c.all_end_by.result ≡ true ↔ AllByRecursion (λ e. page_end e ≤ n) c.args.extents.now) limit c.all_end_by.ensures

use Rattle.std.proofs.Common.{◌≤◌, subst}
use Rattle.std.specs.List.{AllByRecursion}
use Rattle.row_format.specs.Prelude.{page_end}
use Rattle.store_image.specs.Prelude.{pages_of}
use Rattle.onode_codec.proofs.Again.{same_onode}
use Rattle.row_check.proofs.in_place.are_within.Goals as goal

pub returns-in-Some : goal.returns-in-Some
returns-in-Some c = (
  λ yes size spelled.
      subst (λ n. AllByRecursion (λ e. page_end e ≤ pages_of n) c.args.extents.now)
      (same_onode c.args.onode.now c.in-Some.onode.size size c.in-Some.ensures spelled) (c.are_within_size.ensures.0 yes),
  λ all. c.are_within_size.ensures.1 (all c.in-Some.onode.size c.in-Some.ensures),
)

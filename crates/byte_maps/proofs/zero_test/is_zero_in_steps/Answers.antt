use Rattle.std.proofs.Common.{◌≡◌, false, true, sym, ◌∙◌}
use Rattle.byte_maps.proofs.ZeroLanes.{all_more, all_parts}
use Rattle.byte_maps.proofs.zero_test.is_zero_in_steps.Goals as goal

pub returns-then-not-is_zero_block : goal.returns-then-not-is_zero_block
returns-then-not-is_zero_block c =
    let cut = c.in-Some.ensures.cases in (
      λ yes. absurd (let no : false ≡ true = yes in cc),
      λ all. sym c.if-not-is_zero_block.true ∙ c.is_zero_block.ensures.1 (all_parts 512 c.loop-block.left.now _ _ cut.0 cut.1 (c.loop-block.invariant.1 all)).0,
    )

pub loop-block-preserved : goal.loop-block-preserved
loop-block-preserved c =
    let left = c.loop-block.left.now in
    let cut = c.in-Some.ensures.cases in
    let kept = c.loop-block.invariant in (
      λ rest. kept.0 (all_more 512 left _ _ cut.0 cut.1 (c.is_zero_block.ensures.0 c.if-not-is_zero_block.false) rest),
      λ all. (all_parts 512 left _ _ cut.0 cut.1 (kept.1 all)).1,
    )

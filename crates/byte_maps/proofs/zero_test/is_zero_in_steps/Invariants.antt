use Rattle.std.proofs.Common.{◌≡◌, ◌↔◌, All, length}
use Rattle.byte_maps.proofs.zero_test.is_zero_in_steps.Given as goal

-- the bytes are zero if those that are left are
abbrev pub invariant-loop-block : goal.invariant-loop-block
invariant-loop-block l = All (λ b. b ≡ 0) l.left ↔ All (λ b. b ≡ 0) l.bytes

abbrev pub decreases-loop-block : goal.decreases-loop-block
decreases-loop-block l = length l.left

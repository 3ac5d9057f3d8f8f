use Rattle.std.proofs.Common.{◌≡◌, ℕ, List, length, take, drop, ◌∙◌, arith, length-drop, length-take-le}
use Rattle.byte_maps.proofs.ZeroLanes.{both_test}
use Rattle.byte_maps.proofs.zero_test.lanes_of.Goals as goal

pub returns : goal.returns
returns c =
    let part : List ℕ = c.args.part.now in
    let front : length (take 64 part) ≡ 64 = length-take-le 64 part (omega arith) in
    let rest : length (drop 64 part) ≡ 64 = length-drop 64 part ∙ omega arith in
    let back : length (take 64 (drop 64 part)) ≡ 64 = length-take-le 64 (drop 64 part) (omega (arith, rest)) in
    both_test (take 64 part) (take 64 (drop 64 part)) part 64 64 (omega (arith, front, back)) (omega arith) (λ a. a, λ a. a) (λ a. a, λ a. a)

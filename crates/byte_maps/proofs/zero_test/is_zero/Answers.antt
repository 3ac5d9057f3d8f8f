use Rattle.std.proofs.Common.{◌≡◌, ℕ, ◌+◌, ◌-◌, ◌*◌, ◌/◌, ◌≤◌, List, length, take, drop, All, ap, subst, ◌∙◌, arith}
use Rattle.std.proofs.lemmas.List.{drop-drop, length-drop, take_all, take-append-drop}
use Rattle.std.proofs.lemmas.List.Elements.{All-append, All-take, All-drop}
use Rattle.byte_maps.proofs.zero_test.is_zero.Goals as goal

abbrev AreZero : List ℕ → Type 0
AreZero bytes = All (λ (b : ℕ). b ≡ 0) bytes

-- two parts that overlap
covered : (m n : ℕ) (bytes : List ℕ) → m ≤ n → AreZero (drop m bytes) → AreZero (take n bytes) → AreZero bytes
covered m n bytes le back front =
    let at : m + (n - m) ≡ n = omega (arith, le) in
    let rest = subst AreZero (drop-drop (n - m) m bytes ∙ ap (λ i. drop i bytes) at) (All-drop (λ (b : ℕ). b ≡ 0) (n - m) (drop m bytes) back) in
    subst AreZero (take-append-drop n bytes) (All-append (λ (b : ℕ). b ≡ 0) (take n bytes) (drop n bytes) front rest)

whole_steps : (size : ℕ) → 512 ≤ size → size - 512 ≤ size / 512 * 512
whole_steps size some = omega (arith, some)

pub returns-then-is_zero_in_steps : goal.returns-then-is_zero_in_steps
returns-then-is_zero_in_steps c =
    let bytes = c.args.bytes.now in
    let size = length bytes in
    let all = drop (size - 512) bytes in
    let long : length all ≤ size - (size - 512) = omega (arith, length-drop (size - 512) bytes) in
    let back : AreZero all = subst AreZero (take_all (size - (size - 512)) all long) (c.is_zero_in_steps-2.ensures.0 c.if-is_zero_in_steps.true) in (
      λ yes. covered (size - 512) (size / 512 * 512) bytes (whole_steps size c.if-size-lt-BLOCK.false) back (c.is_zero_in_steps-then-is_zero_in_steps.ensures.0 yes),
      λ zero. c.is_zero_in_steps-then-is_zero_in_steps.ensures.1 (All-take (λ (b : ℕ). b ≡ 0) (size / 512 * 512) bytes zero),
    )

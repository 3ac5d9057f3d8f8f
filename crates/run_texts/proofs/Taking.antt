-- What a sink takes piece by piece.
use Rattle.std.proofs.Common.{◌≡◌, ℕ, ◌+◌, ◌-◌, List, [], ◌++◌, length, take, drop, Option, Some, None, refl, sym, ap, ◌∙◌}
use Rattle.std.proofs.Common.{append_assoc, append-nil, length-drop}
use Rattle.std.proofs.Math.Seq.{take-add, take-length}
use Rattle.end_points.specs.Sink.{with_bytes}

-- nothing was taken
pub with_nothing : (old : Option (List ℕ)) → with_bytes old [] ≡ old
with_nothing None = refl
with_nothing (Some text) = ap (λ (l : List ℕ). Some l) (append-nil text)

-- two pieces were taken
pub with_two : (old : Option (List ℕ)) (a b : List ℕ) → with_bytes (with_bytes old a) b ≡ with_bytes old (a ++ b)
with_two None a b = refl
with_two (Some text) a b = ap (λ (l : List ℕ). Some l) (append_assoc text a b)

-- a slice up to the end
pub rest_is : (text : List ℕ) (at : ℕ) → take (length text - at) (drop at text) ≡ drop at text
rest_is text at = ap (λ (n : ℕ). take n (drop at text)) (sym (length-drop at text)) ∙ take-length (drop at text)

-- what was taken, and then n bytes of the rest
pub with_more : (old : Option (List ℕ)) (text : List ℕ) (at n : ℕ)
    → with_bytes (with_bytes old (take at text)) (take n (take (length text - at) (drop at text))) ≡ with_bytes old (take (at + n) text)
with_more old text at n =
    ap (λ (l : List ℕ). with_bytes (with_bytes old (take at text)) (take n l)) (rest_is text at)
    ∙ (with_two old (take at text) (take n (drop at text)) ∙ ap (λ (l : List ℕ). with_bytes old l) (sym (take-add at n text)))

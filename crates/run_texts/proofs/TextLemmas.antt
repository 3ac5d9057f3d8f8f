-- The texts of runs, as they are added piece by piece.
use Rattle.std.proofs.Common.{◌≡◌, ℕ, ◌+◌, ◌<◌, List, [], ◌∷◌, ◌++◌, codes, ap, ◌∙◌}
use Rattle.std.proofs.Common.{append_assoc, sym, refl}
use Rattle.std.specs.Fmt.{decimal}
use Rattle.std.proofs.lemmas.Fmt.{decimal_digit}
use Rattle.run_texts.specs.declared.status.Stop.{Stop}
use Rattle.run_texts.specs.Prelude.{stop_number, as_text, stopped_line}

-- a status has one digit
pub stopped_is : (stop : Stop) (n : ℕ) → stop_number stop ≡ n → n < 10 → as_text (stopped_line stop ∷ []) ≡ codes "stopped " ++ ((48 + n) ∷ 10 ∷ [])
stopped_is stop n is one = ap (λ (d : List ℕ). codes "stopped " ++ (d ++ (10 ∷ []))) (ap (λ (m : ℕ). decimal m) is ∙ decimal_digit n one)

-- a line and its end, and what comes behind it
pub line_and : (line rest : List ℕ) → (line ++ codes "\n") ++ rest ≡ line ++ (10 ∷ rest)
line_and line rest = append_assoc line (codes "\n") rest

-- texts one behind the other
pub as_text-append : (a b : List (List ℕ)) → as_text (a ++ b) ≡ as_text a ++ as_text b
as_text-append [] b = refl
as_text-append (line ∷ lines) b = ap (λ (t : List ℕ). line ++ (10 ∷ t)) (as_text-append lines b)
    ∙ sym (append_assoc line (10 ∷ as_text lines) (as_text b))

-- An example: numbers whose name is whether they are below four.
use Rattle.std.specs.Prelude.{ℕ, nat_lt, Bool, cond, not, List, [], ◌∷◌}

abbrev pub is_on_side : Bool → ℕ → Bool
is_on_side low x = cond low (nat_lt x 4) (not (nat_lt x 4))

-- the fair selections of 2, 3 and 4
abbrev pub nine : List (List ℕ)
nine = [] ∷ (2 ∷ []) ∷ (4 ∷ []) ∷ (2 ∷ 3 ∷ []) ∷ (2 ∷ 4 ∷ [])
    ∷ (4 ∷ 2 ∷ []) ∷ (2 ∷ 3 ∷ 4 ∷ []) ∷ (2 ∷ 4 ∷ 3 ∷ []) ∷ (4 ∷ 2 ∷ 3 ∷ []) ∷ []

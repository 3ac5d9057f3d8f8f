-- Names apart.
use Rattle.std.specs.Prelude.{◌≡◌, ℕ, List}

-- another object
abbrev pub IsOther : List ℕ → List ℕ → List ℕ → List ℕ → Type 0
IsOther c o d u = d ≡ c → u ≡ o → ⊥

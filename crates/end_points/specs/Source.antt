-- What the reads of a text give.
use Rattle.std.specs.Prelude.{◌≡◌, ℕ, ◌<◌, ◌≤◌, List, [], ◌++◌, length, take, drop, Option, Some, None, IfSome}

-- what is left of a text that is told, once n bytes were taken from its front
abbrev pub without_first : ℕ → Option (List ℕ) → Option (List ℕ)
without_first n None = None
without_first n (Some left) = Some (drop n left)

-- a read took the next n bytes, at most so many, and appended them; it takes none of a positive number only at the end
pub record Took (old : Option (List ℕ)) (most n : ℕ) (before after : List ℕ) (new : Option (List ℕ)) : Type 0 where
  pub piece : List ℕ
  pub size : length piece ≡ n
  pub few : n ≤ most
  pub appended : after ≡ before ++ piece
  pub next : IfSome old (λ left. piece ≡ take n left)
  pub rest : new ≡ without_first n old
  pub end : 0 < most → n ≡ 0 → IfSome old (λ left. left ≡ [])

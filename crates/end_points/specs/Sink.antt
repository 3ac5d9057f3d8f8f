-- What the writes of a text leave.
use Rattle.std.specs.Prelude.{◌≡◌, ℕ, ◌<◌, ◌≤◌, List, ◌++◌, length, take, Option, Some, None}

-- the text that is told, with these bytes behind it
abbrev pub with_bytes : Option (List ℕ) → List ℕ → Option (List ℕ)
with_bytes None bytes = None
with_bytes (Some text) bytes = Some (text ++ bytes)

-- the first n bytes of the piece were taken: at least one, where there is one
pub record Put (old : Option (List ℕ)) (piece : List ℕ) (n : ℕ) (new : Option (List ℕ)) : Type 0 where
  pub inside : n ≤ length piece
  pub some : 0 < length piece → 0 < n
  pub written : new ≡ with_bytes old (take n piece)

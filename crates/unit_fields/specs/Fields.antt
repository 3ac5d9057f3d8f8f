-- Fields read from the front of bytes.
use Rattle.std.specs.Prelude.{◌≡◌, ℕ, ◌<◌, List, ◌++◌, length}

-- fewer bytes than so many are left, and none was read
pub record IsTooShort (count : ℕ) (old new : List ℕ) : Type 0 where
  pub too_few : length old < count
  pub unmoved : new ≡ old

-- a number was read: it is the value of the first bytes, and these are its one spelling, in front of what is left
pub record ReadsNumber (value : List ℕ → ℕ) (spelling : ℕ → List ℕ) (old new : List ℕ) (n : ℕ) : Type 0 where
  pub value_is : n ≡ value old
  pub spelled : old ≡ spelling n ++ new

-- so many bytes were read from the front
pub record ReadsBytes (count : ℕ) (old new piece : List ℕ) : Type 0 where
  pub size : length piece ≡ count
  pub parts : old ≡ piece ++ new

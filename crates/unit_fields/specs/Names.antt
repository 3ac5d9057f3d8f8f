-- Names of objects, attributes and omap keys, and names of collections.
use Rattle.std.specs.Prelude.{◌≡◌, ℕ, ◌<◌, ◌≤◌, ◌^◌, false, List, [], ◌∷◌, ◌++◌, length}
use Rattle.std.specs.List.{AllByRecursion}
use Rattle.std.specs.Fmt.{decimal, digits}

-- 1 to 255 bytes, none of them zero
pub record IsName (name : List ℕ) : Type 0 where
  pub not_empty : 0 < length name
  pub short : length name ≤ 255
  pub no_zero : AllByRecursion (λ b. 0 < b) name

-- "_head"
abbrev pub head_suffix : List ℕ
head_suffix = 0x5f ∷ 0x68 ∷ 0x65 ∷ 0x61 ∷ 0x64 ∷ []

-- how a collection is named: its pool in decimal, a dot, its seed in lower-case hexadecimal, and "_head"
abbrev pub coll_name : ℕ → ℕ → List ℕ
coll_name pool seed = decimal pool ++ (0x2e ∷ (digits 16 false seed ++ head_suffix))

-- the bytes name a collection, of some pool and seed
pub record IsCollName (name : List ℕ) : Type 0 where
  pub pool : ℕ
  pub seed : ℕ
  pub pool_fits : pool < 2 ^ 64
  pub seed_fits : seed < 2 ^ 32
  pub spelled : name ≡ coll_name pool seed

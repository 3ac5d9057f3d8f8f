-- Names of a kind one after another, in byte order.
use Rattle.std.specs.Prelude.{◌≡◌, List, [], ◌∷◌, ℕ, Option, Some, None}
use Rattle.std.specs.declared.cmp.Ordering.TheVariants.{Less}
use Rattle.byte_maps.specs.ByteMap.{byte_order}
use Rattle.meta_rows.specs.Prelude.{Rows}
use Rattle.unit_fields.specs.Prelude.{IsName, IsCollName}
use Rattle.row_format.specs.Prelude.{coll_key, onode_key}
use Rattle.store_image.specs.Prelude.{HasKey}

-- the rows have a collection of this name, or an object of this name in one
pub record IsCollection (rows : Rows) (c : List ℕ) : Type 0 where
  pub named : IsCollName c
  pub there : HasKey rows (coll_key c)

pub record IsObject (rows : Rows) (c o : List ℕ) : Type 0 where
  pub named : IsName o
  pub there : HasKey rows (onode_key c o)

-- the name is behind another one, if there is one
abbrev pub IsBehind : Option (List ℕ) → List ℕ → Type 0
IsBehind None name = Unit {0}
IsBehind (Some before) name = byte_order before name ≡ Less

-- of the names of a kind that are behind another one it is the least
pub record IsNextOf (Is : List ℕ → Type 0) (after : Option (List ℕ)) (name : List ℕ) : Type 0 where
  pub is : Is name
  pub behind : IsBehind after name
  pub least : (other : List ℕ) → Is other → IsBehind after other → ¬ (byte_order other name ≡ Less)

-- none of the kind is behind it
abbrev pub IsPast : (List ℕ → Type 0) → Option (List ℕ) → Type 0
IsPast Is after = (name : List ℕ) → Is name → ¬ IsBehind after name

-- each is the next behind the one before it
abbrev pub AreNext : (List ℕ → Type 0) → Option (List ℕ) → List (List ℕ) → Type 0
AreNext Is after [] = Unit {0}
AreNext Is after (name ∷ names) = IsNextOf Is after name × AreNext Is (Some name) names

-- the last of names behind another one, which is that one where there are none
abbrev pub last_of : Option (List ℕ) → List (List ℕ) → Option (List ℕ)
last_of after [] = after
last_of after (name ∷ names) = last_of (Some name) names

-- these are all names of the kind
pub record AreAll (Is : List ℕ → Type 0) (names : List (List ℕ)) : Type 0 where
  pub next : AreNext Is None names
  pub past : IsPast Is (last_of None names)

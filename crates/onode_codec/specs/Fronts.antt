-- Where the keys of the collections begin and end, and those of a collection's objects.
use Rattle.std.specs.Prelude.{ℕ, List, [], ◌∷◌, ◌++◌, Option, Some, None}
use Rattle.row_format.specs.Prelude.{object_key}

-- where the keys of the collections behind another one begin, or of all, and where they end
abbrev pub colls_first : Option (List ℕ) → List ℕ
colls_first None = 0x43 ∷ []
colls_first (Some after) = 0x43 ∷ (after ++ 0 ∷ [])

abbrev pub colls_end : List ℕ
colls_end = 0x44 ∷ []

-- the same of the objects of a collection: they begin behind the keys of the other one's shards
abbrev pub objects_first : List ℕ → Option (List ℕ) → List ℕ
objects_first c None = 0x4f ∷ (c ++ 0 ∷ [])
objects_first c (Some after) = object_key 0x4f c after (0x70 ∷ [])

abbrev pub objects_end : List ℕ → List ℕ
objects_end c = 0x4f ∷ (c ++ 1 ∷ [])

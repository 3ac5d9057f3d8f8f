-- Where the keys of an object's values begin, and where they end.
use Rattle.std.specs.Prelude.{ℕ, List, [], ◌∷◌, ◌++◌}
use Rattle.object_rows.specs.declared.ranges.ValueKind.{ValueKind}
use Rattle.object_rows.specs.declared.ranges.ValueKind.TheVariants.{Attributes, Omap}

-- the first byte of the keys of these values
abbrev pub kind_byte : ValueKind → ℕ
kind_byte Attributes = 0x41
kind_byte Omap = 0x4d

-- all that are of a kind
abbrev pub values_first : ℕ → List ℕ → List ℕ → List ℕ
values_first kind c o = kind ∷ (c ++ 0 ∷ (o ++ 0 ∷ []))

abbrev pub values_end : ℕ → List ℕ → List ℕ → List ℕ
values_end kind c o = kind ∷ (c ++ 0 ∷ (o ++ 1 ∷ []))

-- the pairs of the omap, without its header
abbrev pub pairs_first : List ℕ → List ℕ → List ℕ
pairs_first c o = 0x4d ∷ (c ++ 0 ∷ (o ++ 0 ∷ 0x2e ∷ []))

abbrev pub pairs_end : List ℕ → List ℕ → List ℕ
pairs_end c o = 0x4d ∷ (c ++ 0 ∷ (o ++ 0 ∷ 0x2f ∷ []))

-- The values of an object beside its bytes: its attributes, its omap header and the values of its omap's pairs; and what an operation makes of them.
use Rattle.std.specs.Prelude.{◌≡◌, ℕ, Bool, List, [], ◌∷◌, Option, Some, None, if◌then◌else◌}
use Rattle.std.specs.List.{list_any}
use Rattle.byte_maps.specs.ByteMap.{in_range}
use Rattle.unit_fields.specs.Prelude.{IsName}
use Rattle.object_model.specs.declared.op.Op.{Op}
use Rattle.object_model.specs.declared.op.Op.TheVariants.{Remove, SetAttr, RmAttr, RmAttrs, OmapSet, OmapRm, OmapRmRange, OmapClear, OmapHeader}
use Rattle.object_model.specs.declared.op.Pair.{Pair}
use Rattle.object_model.specs.Prelude.{is_same}
use Rattle.row_format.specs.Prelude.{attr_key, header_key, omap_key}

-- what a value of an object is of: an attribute, the omap's header, or a pair of the omap
pub data ValueKey : Type 0 where
  attribute : (name : List ℕ) → ValueKey
  header : ValueKey
  pair : (key : List ℕ) → ValueKey

-- the key of its row
abbrev pub value_key : List ℕ → List ℕ → ValueKey → List ℕ
value_key c o (attribute name) = attr_key c o name
value_key c o header = header_key c o
value_key c o (pair key) = omap_key c o key

-- the name of the attribute or the key of the pair is a name
abbrev pub IsValueKey : ValueKey → Type 0
IsValueKey (attribute name) = IsName name
IsValueKey header = Unit {0}
IsValueKey (pair key) = IsName key

-- the row's key is that of a value of the object
pub record IsKeyOfValue (c o : List ℕ) (key : List ℕ) : Type 0 where
  pub of : ValueKey
  pub named : IsValueKey of
  pub is : key ≡ value_key c o of

-- the value that pairs give to a key, or this one where none has the key: a later one wins
abbrev pub value_in : List Pair → List ℕ → Option (List ℕ) → Option (List ℕ)
value_in [] key old = old
value_in (p ∷ ps) key old = value_in ps key (if is_same p.key key then Some p.value else old)

-- whether the key is among these
abbrev pub is_among : List (List ℕ) → List ℕ → Bool
is_among keys key = list_any (λ k. is_same k key) keys

-- no value where it would be empty
abbrev pub not_empty : List ℕ → Option (List ℕ)
not_empty [] = None
not_empty (b ∷ bs) = Some (b ∷ bs)

-- What an operation makes of the value under a key, where this stood there, if any. All go with their object. An empty header is none.
abbrev pub value_after : Op → ValueKey → Option (List ℕ) → Option (List ℕ)
value_after (Remove o) k old = None
value_after (SetAttr o name value) (attribute n) old = if is_same name n then Some value else old
value_after (RmAttr o name) (attribute n) old = if is_same name n then None else old
value_after (RmAttrs o) (attribute n) old = None
value_after (OmapSet o pairs) (pair key) old = value_in pairs key old
value_after (OmapRm o keys) (pair key) old = if is_among keys key then None else old
value_after (OmapRmRange o first last) (pair key) old = if in_range first last key then None else old
value_after (OmapClear o) header old = None
value_after (OmapClear o) (pair key) old = None
value_after (OmapHeader o value) header old = not_empty value
value_after op k old = old

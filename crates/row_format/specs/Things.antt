-- What a key names: its kind and the names and numbers in it, read from its bytes. Keys of all kinds are read here, also of those that no
-- row has so far.
use Rattle.std.specs.Prelude.{ℕ, zero, suc, ◌==◌, nat_lt, List, [], ◌∷◌, length, take, drop, Option, Some, None, if◌then◌else◌}
use Rattle.std.specs.Int.{w32, w64, from_be_bytes}

-- what a row is of
pub data Thing : Type 0 where
  a_collection : (c : List ℕ) → Thing
  an_onode : (c o : List ℕ) → Thing
  a_shard : (c o : List ℕ) (page : ℕ) → Thing
  an_attribute : (c o name : List ℕ) → Thing
  an_omap_header : (c o : List ℕ) → Thing
  an_omap_pair : (c o key : List ℕ) → Thing
  a_deferred_write : (seq : ℕ) → Thing
  a_shared_blob : (sbid : ℕ) → Thing
  a_bitmap_row : (r : ℕ) → Thing

-- the bytes before the first zero
abbrev pub name_in : List ℕ → List ℕ
name_in [] = []
name_in (zero ∷ bs) = []
name_in (suc b ∷ bs) = suc b ∷ name_in bs

-- and those behind it
abbrev pub behind_name : List ℕ → List ℕ
behind_name [] = []
behind_name (zero ∷ bs) = bs
behind_name (suc b ∷ bs) = behind_name bs

-- behind the names of a key of kind "O": "o" alone, or a page between "o" and "x"
abbrev pub onode_or_shard : List ℕ → List ℕ → List ℕ → Thing
onode_or_shard c o rest = if nat_lt 1 (length rest) then a_shard c o (from_be_bytes w32 (take 4 (drop 1 rest))) else an_onode c o

-- behind those of kind "M": "-", or "." and a key
abbrev pub header_or_pair : List ℕ → List ℕ → List ℕ → Option Thing
header_or_pair c o [] = None
header_or_pair c o (b ∷ key) = if b == 0x2d then Some (an_omap_header c o) else if b == 0x2e then Some (an_omap_pair c o key) else None

-- a key of an object, by its kind
abbrev pub object_thing : ℕ → List ℕ → List ℕ → List ℕ → Option Thing
object_thing kind c o rest =
    if kind == 0x4f then Some (onode_or_shard c o rest)
    else if kind == 0x41 then Some (an_attribute c o rest)
    else if kind == 0x4d then header_or_pair c o rest
    else None

-- a key by its kind, and what stands behind it
abbrev pub thing_behind : ℕ → List ℕ → Option Thing
thing_behind kind rest =
    if kind == 0x43 then Some (a_collection rest)
    else if kind == 0x4c then Some (a_deferred_write (from_be_bytes w64 rest))
    else if kind == 0x58 then Some (a_shared_blob (from_be_bytes w64 rest))
    else if kind == 0x62 then Some (a_bitmap_row (from_be_bytes w32 rest))
    else object_thing kind (name_in rest) (name_in (behind_name rest)) (behind_name (behind_name rest))

abbrev pub thing_of : List ℕ → Option Thing
thing_of [] = None
thing_of (kind ∷ rest) = thing_behind kind rest

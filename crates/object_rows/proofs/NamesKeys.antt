-- The keys in the ranges behind a collection or an object.
use Rattle.std.proofs.Common.{◌≡◌, ◌≢◌, ℕ, true, List, [], ◌∷◌, ◌++◌, Option, Some, None, refl, sym, ap, subst, ◌∙◌, arith}
use Rattle.std.specs.Option.{IfSome}
use Rattle.std.specs.Ordering.{ordering_then}
use Rattle.std.specs.declared.cmp.Ordering.{Ordering}
use Rattle.std.specs.declared.cmp.Ordering.TheVariants.{Less, Equal, Greater}
use Rattle.std.proofs.lemmas.Cmp.{tied_itself, nat_list_cmp_total}
use Rattle.byte_maps.specs.ByteMap.{byte_order, in_range}
use Rattle.unit_fields.specs.Prelude.{IsName}
use Rattle.row_format.specs.Prelude.{coll_key, onode_key}
use Rattle.row_reading.proofs.KeyOrder.{after_front, has_front}
use Rattle.read_facts.specs.Prelude.{IsBehind}
use Rattle.onode_codec.specs.Fronts.{colls_first, colls_end, objects_first, objects_end}
use Rattle.object_rows.proofs.NamesRange.{from_range, to_range}
use Rattle.object_rows.proofs.NamesOrder.{turned, turned_less, none_below, same_first, lesser_first, begins, ended, behind_zero, above_zero}

-- ---- collections

-- what stands behind the first byte of where the collections begin
abbrev name_first : Option (List ℕ) → List ℕ
name_first None = []
name_first (Some after) = after ++ 0 ∷ []

-- that range begins with the byte of collections
colls_split : (after : Option (List ℕ)) → colls_first after ≡ 0x43 ∷ name_first after
colls_split None = refl
colls_split (Some after) = refl

-- what is not below where the collections begin is behind the other one
behind_first : (after : Option (List ℕ)) (c : List ℕ) → byte_order c (name_first after) ≢ Less → IsBehind after c
behind_first None c up = tt
behind_first (Some after) c up = behind_zero after c up

-- the other way round
from_behind : (after : Option (List ℕ)) (c : List ℕ) → IsBehind after c → byte_order c (name_first after) ≢ Less
from_behind None c behind = none_below c
from_behind (Some after) c behind = above_zero after c behind

-- a key in the range of collections is that of a name behind the other one
pub record IsCollsKey (after : Option (List ℕ)) (key : List ℕ) : Type 0 where
  pub name : List ℕ
  pub is : key ≡ coll_key name
  pub behind : IsBehind after name

-- the keys in the range of collections are such
pub colls_key : (after : Option (List ℕ)) (key : List ℕ) → in_range (colls_first after) colls_end key ≡ true → IsCollsKey after key
colls_key after key is =
    let sides = from_range (colls_first after) colls_end key is in
    let up : byte_order key (0x43 ∷ name_first after) ≢ Less = subst (λ (k : List ℕ). byte_order key k ≢ Less) (colls_split after) sides.0 in
    let found = begins 0x43 0x44 (name_first after) key refl up sides.1 in
    record { name = found.rest; is = found.is; behind = behind_first after found.rest found.up }

-- the key of such a name is in the range
pub coll_within : (after : Option (List ℕ)) (c : List ℕ) → IsBehind after c → in_range (colls_first after) colls_end (coll_key c) ≡ true
coll_within after c behind = to_range (colls_first after) colls_end (coll_key c)
    (λ less. from_behind after c behind (sym (ap (byte_order (coll_key c)) (colls_split after) ∙ same_first 0x43 c (name_first after)) ∙ less))
    (lesser_first 0x43 0x44 c [] (omega arith))

-- ---- objects

-- what stands behind the collection's name and its end of where the objects begin
abbrev pub object_first : Option (List ℕ) → List ℕ
object_first None = []
object_first (Some after) = after ++ 0 ∷ (0x70 ∷ [])

module _ (c : List ℕ) where
  -- the first byte and the name of the collection
  abbrev front : List ℕ
  front = 0x4f ∷ c

  -- an object's key, by what stands behind the collection's name and its end
  abbrev pub behind_coll : List ℕ → List ℕ
  behind_coll rest = 0x4f ∷ (c ++ 0 ∷ rest)

  -- the range of objects begins with these, and an end
  objects_split : (after : Option (List ℕ)) → objects_first c after ≡ front ++ (0 ∷ object_first after)
  objects_split None = refl
  objects_split (Some after) = refl

  -- byte order of two such keys
  pub two_keys : (x y : List ℕ) → byte_order (behind_coll x) (behind_coll y) ≡ byte_order x y
  two_keys x y = after_front front (0 ∷ x) (0 ∷ y) ∙ same_first 0 x y

  -- a key in the range is one of the collection
  pub record IsObjectsKey (after : Option (List ℕ)) (key : List ℕ) : Type 0 where
    pub rest : List ℕ
    pub is : key ≡ behind_coll rest
    pub up : byte_order rest (object_first after) ≢ Less

  -- the keys in the range of objects are such
  pub objects_key : (after : Option (List ℕ)) (key : List ℕ) → in_range (objects_first c after) (objects_end c) key ≡ true → IsObjectsKey after key
  objects_key after key within =
      let sides = from_range (objects_first c after) (objects_end c) key within in
      let up : byte_order key (front ++ (0 ∷ object_first after)) ≢ Less =
      subst (λ (k : List ℕ). byte_order key k ≢ Less) (objects_split after) sides.0 in
      let fronted = has_front front key (0 ∷ object_first after) (1 ∷ []) up sides.1 in
      let behind = fronted.0 in
      let up_behind : byte_order behind (0 ∷ object_first after) ≢ Less =
      λ less. up (ap (λ (k : List ℕ). byte_order k (front ++ (0 ∷ object_first after))) fronted.1
      ∙ after_front front behind (0 ∷ object_first after) ∙ less) in
      let down_behind : byte_order behind (1 ∷ []) ≡ Less =
      sym (ap (λ (k : List ℕ). byte_order k (objects_end c)) fronted.1 ∙ after_front front behind (1 ∷ [])) ∙ sides.1 in
      let found = begins 0 1 (object_first after) behind refl up_behind down_behind in
      record { rest = found.rest; is = fronted.1 ∙ ap (λ (l : List ℕ). front ++ l) found.is; up = found.up }

  -- such a key is in the range
  pub key_within : (after : Option (List ℕ)) (rest : List ℕ) → byte_order rest (object_first after) ≢ Less
      → in_range (objects_first c after) (objects_end c) (behind_coll rest) ≡ true
  key_within after rest up = to_range (objects_first c after) (objects_end c) (behind_coll rest)
      (λ less. up (sym (ap (byte_order (behind_coll rest)) (objects_split after) ∙ two_keys rest (object_first after)) ∙ less))
      (after_front front (0 ∷ rest) (1 ∷ []) ∙ lesser_first 0 1 rest [] (omega arith))

-- the name of an object, its end, and the rest of the key of its onode or of a shard
abbrev pub with_part : List ℕ → List ℕ → List ℕ
with_part o part = o ++ 0 ∷ (0x6f ∷ part)

-- an object's keys, compared with the end of those of another one: the names decide, and the keys of one object are below its end
below_end : (o part : List ℕ) (after : List ℕ) → IsName o → IsName after
    → byte_order (with_part o part) (after ++ 0 ∷ (0x70 ∷ [])) ≡ ordering_then (byte_order o after) Less
below_end o part after name after_name =
    ended o after (0x6f ∷ part) (0x70 ∷ []) name.no_zero after_name.no_zero
    ∙ ap (ordering_then (byte_order o after)) (lesser_first 0x6f 0x70 part [] (omega arith))

-- what is not less than another name or the same is greater
only_greater : (r : Ordering) → ordering_then r Less ≢ Less → r ≡ Greater
only_greater Less apart = absurd (apart refl)
only_greater Equal apart = absurd (apart refl)
only_greater Greater apart = refl

-- what is not below where the objects begin is of an object behind the other one
pub part_behind : (after : Option (List ℕ)) (o part : List ℕ) → IfSome after IsName → IsName o
    → byte_order (with_part o part) (object_first after) ≢ Less → IsBehind after o
part_behind None o part named name up = tt
part_behind (Some after) o part named name up =
    turned o after (only_greater (byte_order o after) (λ less. up (below_end o part after name named ∙ less)))

-- the other way round
pub behind_part : (after : Option (List ℕ)) (o part : List ℕ) → IfSome after IsName → IsName o → IsBehind after o
    → byte_order (with_part o part) (object_first after) ≢ Less
behind_part None o part named name behind = none_below (with_part o part)
behind_part (Some after) o part named name behind = λ less.
    let more : ordering_then (byte_order o after) Less ≡ Greater = ap (λ (r : Ordering). ordering_then r Less) (turned_less after o behind) in
    let both : Less ≡ Greater = sym less ∙ below_end o part after name named ∙ more in
    cc

-- the key of the onode of an object behind the other one is in the range
pub onode_within : (c o : List ℕ) (after : Option (List ℕ)) → IfSome after IsName → IsName o → IsBehind after o
    → in_range (objects_first c after) (objects_end c) (onode_key c o) ≡ true
onode_within c o after named name behind = key_within c after (with_part o []) (behind_part after o [] named name behind)

-- onodes' keys come in the order of the names
pub onodes_in_order : (c o u : List ℕ) → IsName o → IsName u → byte_order o u ≡ Less → byte_order (onode_key c o) (onode_key c u) ≡ Less
onodes_in_order c o u o_name u_name less =
    two_keys c (with_part o []) (with_part u [])
    ∙ ended o u (0x6f ∷ []) (0x6f ∷ []) o_name.no_zero u_name.no_zero
    ∙ ap (λ (r : Ordering). ordering_then r (byte_order (0x6f ∷ []) (0x6f ∷ []))) less

-- the onode of the other object stands before the range
pub own_before : (c o : List ℕ) → IsName o → in_range (objects_first c (Some o)) (objects_end c) (onode_key c o) ≢ true
own_before c o name within =
    let sides = from_range (objects_first c (Some o)) (objects_end c) (onode_key c o) within in
    sides.0 (two_keys c (with_part o []) (o ++ 0 ∷ (0x70 ∷ [])) ∙ below_end o [] o name name
    ∙ ap (λ (r : Ordering). ordering_then r Less) (tied_itself nat_list_cmp_total o))

-- what is not below where a later range begins is not below where an earlier one does
stays_up : (after : Option (List ℕ)) (o rest : List ℕ) → IfSome after IsName → IsName o → IsBehind after o
    → byte_order rest (o ++ 0 ∷ (0x70 ∷ [])) ≢ Less → byte_order rest (object_first after) ≢ Less
stays_up None o rest named name behind up = none_below rest
stays_up (Some after) o rest named name behind up = λ less.
    let rises : byte_order (after ++ 0 ∷ (0x70 ∷ [])) (o ++ 0 ∷ (0x70 ∷ [])) ≡ Less =
    ended after o (0x70 ∷ []) (0x70 ∷ []) named.no_zero name.no_zero
    ∙ ap (λ (r : Ordering). ordering_then r (byte_order (0x70 ∷ []) (0x70 ∷ []))) behind in
    up (nat_list_cmp_total.trans rest (after ++ 0 ∷ (0x70 ∷ [])) (o ++ 0 ∷ (0x70 ∷ [])) less rises)

-- a later range is within an earlier one
pub range_within : (c o : List ℕ) (after : Option (List ℕ)) → IfSome after IsName → IsName o → IsBehind after o → (key : List ℕ)
    → in_range (objects_first c (Some o)) (objects_end c) key ≡ true → in_range (objects_first c after) (objects_end c) key ≡ true
range_within c o after named name behind key within =
    let found = objects_key c (Some o) key within in
    subst (λ (k : List ℕ). in_range (objects_first c after) (objects_end c) k ≡ true) (sym found.is)
    (key_within c after found.rest (stays_up after o found.rest named name behind found.up))

-- A key that is spelled is read again, each kind once.
use Rattle.std.proofs.Common.{◌≡◌, ℕ, zero, suc, ◌^◌, ◌<◌, List, [], ◌∷◌, ◌++◌, Some, refl, ap, ◌∙◌, arith}
use Rattle.std.specs.List.{AllByRecursion}
use Rattle.std.specs.Int.{w32, to_be_bytes}
use Rattle.std.proofs.lemmas.Nat.{from_be_bytes-to_be_bytes_4, from_be_bytes-to_be_bytes_8}
use Rattle.unit_fields.specs.Prelude.{IsName, IsCollName}
use Rattle.unit_fields.proofs.CollNames.{no_zero_in_coll}
use Rattle.row_format.specs.Prelude.{coll_key, onode_key, shard_key, attr_key, header_key, omap_key, deferred_key, shared_key, bitmap_key, a_collection, an_onode, a_shard, an_attribute, an_omap_header, an_omap_pair, a_deferred_write, a_shared_blob, a_bitmap_row, name_in, behind_name, object_thing, thing_of}

-- a name is read up to its zero
name_again : (a x : List ℕ) → AllByRecursion (λ n. 0 < n) a → name_in (a ++ 0 ∷ x) ≡ a
name_again [] x p = refl
name_again (suc n ∷ a) x p = ap (λ l. suc n ∷ l) (name_again a x p.1)
name_again (zero ∷ a) x p = absurd (omega (arith, p.0))

behind_again : (a x : List ℕ) → AllByRecursion (λ n. 0 < n) a → behind_name (a ++ 0 ∷ x) ≡ x
behind_again [] x p = refl
behind_again (suc n ∷ a) x p = behind_again a x p.1
behind_again (zero ∷ a) x p = absurd (omega (arith, p.0))

-- both names of a key of an object
object_again : (kind : ℕ) (c o rest : List ℕ) → IsCollName c → IsName o
    → object_thing kind (name_in (c ++ 0 ∷ (o ++ 0 ∷ rest))) (name_in (behind_name (c ++ 0 ∷ (o ++ 0 ∷ rest)))) (behind_name (behind_name (c ++ 0 ∷ (o ++ 0 ∷ rest))))
    ≡ object_thing kind c o rest
object_again kind c o rest p q =
    let colls = no_zero_in_coll c p in
    let behind = behind_again c (o ++ 0 ∷ rest) colls in
    λ i. object_thing kind (name_again c (o ++ 0 ∷ rest) colls i)
    ((ap name_in behind ∙ name_again o rest q.no_zero) i)
    ((ap behind_name behind ∙ behind_again o rest q.no_zero) i)

pub collection_again : (c : List ℕ) → thing_of (coll_key c) ≡ Some (a_collection c)
collection_again c = refl

pub onode_again : (c o : List ℕ) → IsCollName c → IsName o → thing_of (onode_key c o) ≡ Some (an_onode c o)
onode_again c o p q = object_again 0x4f c o (0x6f ∷ []) p q

pub shard_again : (c o : List ℕ) (page : ℕ) → IsCollName c → IsName o → page < 2 ^ 32 → thing_of (shard_key c o page) ≡ Some (a_shard c o page)
shard_again c o page p q lt =
    object_again 0x4f c o (0x6f ∷ to_be_bytes w32 page ++ 0x78 ∷ []) p q
    ∙ ap (λ n. Some (a_shard c o n)) (from_be_bytes-to_be_bytes_4 page lt)

pub attribute_again : (c o name : List ℕ) → IsCollName c → IsName o → thing_of (attr_key c o name) ≡ Some (an_attribute c o name)
attribute_again c o name p q = object_again 0x41 c o name p q

pub header_again : (c o : List ℕ) → IsCollName c → IsName o → thing_of (header_key c o) ≡ Some (an_omap_header c o)
header_again c o p q = object_again 0x4d c o (0x2d ∷ []) p q

pub pair_again : (c o key : List ℕ) → IsCollName c → IsName o → thing_of (omap_key c o key) ≡ Some (an_omap_pair c o key)
pair_again c o key p q = object_again 0x4d c o (0x2e ∷ key) p q

pub deferred_again : (seq : ℕ) → seq < 2 ^ 64 → thing_of (deferred_key seq) ≡ Some (a_deferred_write seq)
deferred_again seq lt = ap (λ n. Some (a_deferred_write n)) (from_be_bytes-to_be_bytes_8 seq lt)

pub shared_again : (sbid : ℕ) → sbid < 2 ^ 64 → thing_of (shared_key sbid) ≡ Some (a_shared_blob sbid)
shared_again sbid lt = ap (λ n. Some (a_shared_blob n)) (from_be_bytes-to_be_bytes_8 sbid lt)

pub bitmap_again : (r : ℕ) → r < 2 ^ 32 → thing_of (bitmap_key r) ≡ Some (a_bitmap_row r)
bitmap_again r lt = ap (λ n. Some (a_bitmap_row n)) (from_be_bytes-to_be_bytes_4 r lt)

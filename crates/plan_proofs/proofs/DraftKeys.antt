-- Which keys are those of a collection's rows, and of the blobs whose slots its pages left.
use Rattle.std.proofs.Common.{◌≡◌, ◌≢◌, inl, inr, ℕ, ◌<◌, ◌^◌, List, ◌∷◌, sym, arith}
use Rattle.unit_fields.specs.Prelude.{IsName, IsCollName}
use Rattle.row_format.specs.Prelude.{coll_key, onode_key, shard_key, bitmap_key}
use Rattle.row_format.proofs.Prelude.{same_head, same_coll, same_onode, same_shard, same_place, coll_no_object, onode_no_shard, bitmap_no_coll, bitmap_no_object}
use Rattle.plan_rows.specs.declared.plan.SlotNo.{SlotNo}
use Rattle.plan_drafts.specs.Prelude.{ValueKey, attribute, header, pair, value_key, IsKeyOfValue, IsKeyOfColl, IsKeyOfSlot}

-- the keys of values begin otherwise
no_value : (c o : List ℕ) (kind : ℕ) (rest : List ℕ) → kind ≢ 0x41 → kind ≢ 0x4d → IsKeyOfValue c o (kind ∷ rest) → ⊥
no_value c o kind rest a m its = by its.of its.is
  where
    by : (k : ValueKey) → kind ∷ rest ≡ value_key c o k → ⊥
    by (attribute n) e = a (same_head _ _ _ _ e)
    by header e = m (same_head _ _ _ _ e)
    by (pair q) e = m (same_head _ _ _ _ e)

pub coll_apart_of : (c d : List ℕ) → d ≢ c → IsKeyOfColl c (coll_key d) → ⊥
coll_apart_of c d apart (inl e) = apart (same_coll d c e)
coll_apart_of c d apart (inr (o, name, inl (inl e))) = coll_no_object d c o _ e
coll_apart_of c d apart (inr (o, name, inl (inr p))) = coll_no_object d c o _ p.2
coll_apart_of c d apart (inr (o, name, inr its)) = no_value c o 0x43 d (λ e. omega (arith, e)) (λ e. omega (arith, e)) its

-- keys of another collection are none of this one's
module _ (c d : List ℕ) (coll : IsCollName c) (other : IsCollName d) (apart : d ≢ c) where
  module _ (u : List ℕ) (named : IsName u) where
    pub onode_apart : IsKeyOfColl c (onode_key d u) → ⊥
    onode_apart (inl e) = omega (arith, same_head _ _ _ _ e)
    onode_apart (inr (o, name, inl (inl e))) = apart (same_onode d u c o other named coll name e).0
    onode_apart (inr (o, name, inl (inr p))) = onode_no_shard d u c o p.0 other named coll name p.2
    onode_apart (inr (o, name, inr its)) = no_value c o 0x4f _ (λ e. omega (arith, e)) (λ e. omega (arith, e)) its

    pub shard_apart : (page : ℕ) → page < 2 ^ 32 → IsKeyOfColl c (shard_key d u page) → ⊥
    shard_apart page lt (inl e) = omega (arith, same_head _ _ _ _ e)
    shard_apart page lt (inr (o, name, inl (inl e))) = onode_no_shard c o d u page coll name other named (sym e)
    shard_apart page lt (inr (o, name, inl (inr p))) = apart (same_shard d u c o page p.0 other named coll name lt p.1 p.2).0
    shard_apart page lt (inr (o, name, inr its)) = no_value c o 0x4f _ (λ e. omega (arith, e)) (λ e. omega (arith, e)) its

    pub value_apart : (k : ValueKey) → IsKeyOfColl c (value_key d u k) → ⊥
    value_apart (attribute n) (inl e) = omega (arith, same_head _ _ _ _ e)
    value_apart header (inl e) = omega (arith, same_head _ _ _ _ e)
    value_apart (pair n) (inl e) = omega (arith, same_head _ _ _ _ e)
    value_apart (attribute n) (inr (o, name, inl (inl e))) = omega (arith, same_head _ _ _ _ e)
    value_apart header (inr (o, name, inl (inl e))) = omega (arith, same_head _ _ _ _ e)
    value_apart (pair n) (inr (o, name, inl (inl e))) = omega (arith, same_head _ _ _ _ e)
    value_apart (attribute n) (inr (o, name, inl (inr p))) = omega (arith, same_head _ _ _ _ p.2)
    value_apart header (inr (o, name, inl (inr p))) = omega (arith, same_head _ _ _ _ p.2)
    value_apart (pair n) (inr (o, name, inl (inr p))) = omega (arith, same_head _ _ _ _ p.2)
    value_apart k (inr (o, name, inr its)) = by k its.of its.is
      where
        by : (k l : ValueKey) → value_key d u k ≡ value_key c o l → ⊥
        by (attribute n) (attribute m) e = apart (same_place 0x41 d u c o n m other named coll name e).0
        by (attribute n) header e = omega (arith, same_head _ _ _ _ e)
        by (attribute n) (pair m) e = omega (arith, same_head _ _ _ _ e)
        by header (attribute m) e = omega (arith, same_head _ _ _ _ e)
        by header header e = apart (same_place 0x4d d u c o _ _ other named coll name e).0
        by header (pair m) e = apart (same_place 0x4d d u c o _ _ other named coll name e).0
        by (pair n) (attribute m) e = omega (arith, same_head _ _ _ _ e)
        by (pair n) header e = apart (same_place 0x4d d u c o _ _ other named coll name e).0
        by (pair n) (pair m) e = apart (same_place 0x4d d u c o _ _ other named coll name e).0

pub bits_apart : (c : List ℕ) (r : ℕ) → IsKeyOfColl c (bitmap_key r) → ⊥
bits_apart c r (inl e) = bitmap_no_coll r c e
bits_apart c r (inr (o, name, inl (inl e))) = bitmap_no_object r c o _ e
bits_apart c r (inr (o, name, inl (inr p))) = bitmap_no_object r c o _ p.2
bits_apart c r (inr (o, name, inr its)) = no_value c o 0x62 _ (λ e. omega (arith, e)) (λ e. omega (arith, e)) its

-- ---- keys of blobs

-- keys that begin otherwise are none of blobs
pub no_blob : (ss : List SlotNo) (kind : ℕ) (rest : List ℕ) → kind ≢ 0x58 → IsKeyOfSlot ss (kind ∷ rest) → ⊥
no_blob ss kind rest other its = other (same_head _ _ _ _ its.is)

pub value_no_blob : (ss : List SlotNo) (c o : List ℕ) (k : ValueKey) → IsKeyOfSlot ss (value_key c o k) → ⊥
value_no_blob ss c o (attribute n) = no_blob ss 0x41 _ (λ e. omega (arith, e))
value_no_blob ss c o header = no_blob ss 0x4d _ (λ e. omega (arith, e))
value_no_blob ss c o (pair q) = no_blob ss 0x4d _ (λ e. omega (arith, e))

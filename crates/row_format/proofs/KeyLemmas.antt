-- Different things have different keys.
use Rattle.std.proofs.Common.{◌≡◌, ◌≢◌, ℕ, ◌^◌, ◌<◌, List, [], ◌∷◌, ◌++◌, length, drop, refl, sym, ap, ◌∙◌, arith}
use Rattle.std.specs.List.{AllByRecursion}
use Rattle.std.specs.Int.{w32, to_be_bytes, from_be_bytes}
use Rattle.std.proofs.lemmas.Nat.{from_be_bytes-to_be_bytes_4}
use Rattle.meta_rows.proofs.FieldLemmas.{same_front}
use Rattle.unit_fields.specs.Prelude.{IsName, IsCollName}
use Rattle.row_format.specs.Prelude.{object_key, coll_key, onode_key, shard_key, bitmap_key, bit_rows}
use Rattle.unit_fields.proofs.CollNames.{no_zero_in_coll}

head : List ℕ → ℕ
head [] = 0
head (x ∷ xs) = x

pub same_head : (a b : ℕ) (x y : List ℕ) → a ∷ x ≡ b ∷ y → a ≡ b
unfolding head
same_head a b x y e = ap head e

-- what stands before the first zero, and behind it
pub first_zero : (a b x y : List ℕ) → AllByRecursion (λ n. 0 < n) a → AllByRecursion (λ n. 0 < n) b → a ++ 0 ∷ x ≡ b ++ 0 ∷ y → (a ≡ b) × (x ≡ y)
first_zero [] [] x y p q e = (refl, ap (drop 1) e)
first_zero [] (m ∷ b) x y p q e = absurd (omega (arith, q.0, same_head _ _ _ _ e))
first_zero (n ∷ a) [] x y p q e = absurd (omega (arith, p.0, same_head _ _ _ _ e))
first_zero (n ∷ a) (m ∷ b) x y p q e =
    let first : n ≡ m = same_head _ _ _ _ e in
    let others = first_zero a b x y p.1 q.1 (ap (drop 1) e) in
    (λ i. first i ∷ others.0 i, others.1)

-- one kind, two objects
pub same_place : (kind : ℕ) (c o d u x y : List ℕ) → IsCollName c → IsName o → IsCollName d → IsName u → object_key kind c o x ≡ object_key kind d u y → (c ≡ d) × (o ≡ u) × (x ≡ y)
same_place kind c o d u x y c_name o_name d_name u_name e =
    let colls = first_zero c d (o ++ 0 ∷ x) (u ++ 0 ∷ y) (no_zero_in_coll c c_name) (no_zero_in_coll d d_name) (ap (drop 1) e) in
    let objects = first_zero o u x y o_name.no_zero u_name.no_zero colls.1 in
    (colls.0, objects.0, objects.1)

-- two kinds
pub other_kind : (k l : ℕ) (c o d u x y : List ℕ) → k ≢ l → object_key k c o x ≢ object_key l d u y
other_kind k l c o d u x y apart e = apart (same_head _ _ _ _ e)

pub same_coll : (c d : List ℕ) → coll_key c ≡ coll_key d → c ≡ d
same_coll c d e = ap (drop 1) e

pub coll_no_object : (c d u x : List ℕ) → coll_key c ≢ object_key 0x4f d u x
coll_no_object c d u x e = omega (arith, same_head _ _ _ _ e)

pub same_onode : (c o d u : List ℕ) → IsCollName c → IsName o → IsCollName d → IsName u → onode_key c o ≡ onode_key d u → (c ≡ d) × (o ≡ u)
same_onode c o d u p q r s e = let is = same_place 0x4f c o d u _ _ p q r s e in (is.0, is.1)

pub same_shard : (c o d u : List ℕ) (page other : ℕ) → IsCollName c → IsName o → IsCollName d → IsName u → page < 2 ^ 32 → other < 2 ^ 32 → shard_key c o page ≡ shard_key d u other → (c ≡ d) × (o ≡ u) × (page ≡ other)
same_shard c o d u page other p q r s lt lu e =
    let is = same_place 0x4f c o d u _ _ p q r s e in
    let pages = same_front (to_be_bytes w32 page) (to_be_bytes w32 other) (0x78 ∷ []) (0x78 ∷ []) refl (ap (drop 1) is.2) in
    (is.0, is.1, sym (from_be_bytes-to_be_bytes_4 page lt) ∙ ap (from_be_bytes w32) pages.0 ∙ from_be_bytes-to_be_bytes_4 other lu)

-- an onode's key ends where a shard's goes on
pub onode_no_shard : (c o d u : List ℕ) (page : ℕ) → IsCollName c → IsName o → IsCollName d → IsName u → onode_key c o ≢ shard_key d u page
onode_no_shard c o d u page p q r s e =
    let is = same_place 0x4f c o d u _ _ p q r s e in
    omega (arith, ap length is.2)

-- rows of the bitmap
pub same_bitmap : (r q : ℕ) → r < bit_rows → q < bit_rows → bitmap_key r ≡ bitmap_key q → r ≡ q
same_bitmap r q lr lq e =
    sym (from_be_bytes-to_be_bytes_4 r (omega (arith, lr))) ∙ ap (λ key. from_be_bytes w32 (drop 1 key)) e ∙ from_be_bytes-to_be_bytes_4 q (omega (arith, lq))

pub bitmap_no_coll : (r : ℕ) (c : List ℕ) → bitmap_key r ≢ coll_key c
bitmap_no_coll r c e = omega (arith, same_head _ _ _ _ e)

pub bitmap_no_object : (r : ℕ) (d u x : List ℕ) → bitmap_key r ≢ object_key 0x4f d u x
bitmap_no_object r d u x e = omega (arith, same_head _ _ _ _ e)

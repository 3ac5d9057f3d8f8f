-- The order of the keys of one object.
use Rattle.std.proofs.Common.{◌≡◌, ◌≢◌, ◌⊎◌, inl, inr, ℕ, ◌+◌, ◌*◌, ◌^◌, ◌<◌, List, [], ◌∷◌, ◌++◌, refl, sym, ap, ◌∙◌, append_assoc, append-nil, arith}
use Rattle.std.specs.Int.{w32, to_be_bytes, byte_at}
use Rattle.std.specs.Ordering.{nat_cmp, ordering_then, ordering_reverse, MatchOrdering}
use Rattle.std.specs.declared.cmp.Ordering.{Ordering}
use Rattle.std.specs.declared.cmp.Ordering.TheVariants.{Less, Equal, Greater}
use Rattle.std.specs.FinMap.{nat_cmp-IsAntisymmetric}
use Rattle.std.proofs.lemmas.Cmp.{ranked, tied_itself, nat_cmp_total, nat_list_cmp_total}
use Rattle.std.proofs.lemmas.Nat.{from_be_bytes-to_be_bytes_4}
use Rattle.byte_maps.specs.ByteMap.{byte_order}
use Rattle.byte_maps.proofs.Prelude.{same_bytes}
use Rattle.unit_fields.specs.Prelude.{IsName, IsCollName}
use Rattle.row_format.specs.Prelude.{object_key, onode_key, shard_key}
use Rattle.row_format.proofs.Prelude.{same_shard}

-- ---- byte strings with a common front

pub after_front : (p x y : List ℕ) → byte_order (p ++ x) (p ++ y) ≡ byte_order x y
after_front [] x y = refl
after_front (b ∷ p) x y = ap (λ r. ordering_then r (byte_order (p ++ x) (p ++ y))) (tied_itself nat_cmp_total b) ∙ after_front p x y

-- what lies between two strings with the front p has the front too
pub has_front : (p k x y : List ℕ) → byte_order k (p ++ x) ≢ Less → byte_order k (p ++ y) ≡ Less → (rest : List ℕ) × (k ≡ p ++ rest)
has_front [] k x y up down = (k, refl)
has_front (b ∷ p) [] x y up down = absurd (up refl)
has_front (b ∷ p) (n ∷ k) x y up down =
    elim (nat_cmp n b) as (λ r. nat_cmp n b ≡ r → ordering_then r (byte_order k (p ++ x)) ≢ Less → ordering_then r (byte_order k (p ++ y)) ≡ Less → (rest : List ℕ) × (n ∷ k ≡ (b ∷ p) ++ rest)) [
      | Less ↦ λ e u d. absurd (u refl)
      | Equal ↦ λ e u d. let later = has_front p k x y u d in (later.0, λ i. nat_cmp-IsAntisymmetric n b e i ∷ later.1 i)
      | Greater ↦ λ e u d. absurd cc
    ] refl up down

-- ---- numbers of four bytes, the highest first

less_cases : (u v : ℕ) (r : Ordering) → ordering_then (nat_cmp u v) r ≡ Less → (u < v) ⊎ ((u ≡ v) × (r ≡ Less))
less_cases u v r is =
    elim (nat_cmp u v) as (λ o. MatchOrdering o (u < v) (u ≡ v) (v < u) → ordering_then o r ≡ Less → (u < v) ⊎ ((u ≡ v) × (r ≡ Less))) [
      | Less ↦ λ h e. inl h
      | Equal ↦ λ h e. inr (h, e)
      | Greater ↦ λ h e. absurd cc
    ] (ranked u v (nat_cmp u v) refl) is

never_less : (x : List ℕ) → byte_order x x ≢ Less
never_less x e = let same = tied_itself nat_list_cmp_total x in absurd cc

worth : ℕ → ℕ → ℕ → ℕ → ℕ
worth a b c d = 16777216 * a + 65536 * b + 256 * c + d

four_less : (a b c d p q r s : ℕ) (x : List ℕ) → b < 256 → c < 256 → d < 256 → q < 256 → r < 256 → s < 256
    → byte_order (a ∷ b ∷ c ∷ d ∷ x) (p ∷ q ∷ r ∷ s ∷ x) ≡ Less → worth a b c d < worth p q r s
unfolding worth
four_less a b c d p q r s x lb lc ld lq lr ls is = elim (less_cases a p _ is) [
  | inl h ↦ omega arith
  | inr h ↦ elim (less_cases b q _ h.1) [
    | inl g ↦ let e = h.0 in omega arith
    | inr g ↦ elim (less_cases c r _ g.1) [
      | inl f ↦ let e = h.0 in let e2 = g.0 in omega arith
      | inr f ↦ elim (less_cases d s _ f.1) [
        | inl k ↦ let e = h.0 in let e2 = g.0 in let e3 = f.0 in omega arith
        | inr k ↦ absurd (never_less x k.1)
      ]
    ]
  ]
]

worth_is : (n : ℕ) → n < 2 ^ 32 → worth (byte_at 3 n) (byte_at 2 n) (byte_at 1 n) (byte_at 0 n) ≡ n
unfolding worth
worth_is n below = omega (arith, from_be_bytes-to_be_bytes_4 n below)

number_less : (m n : ℕ) (x : List ℕ) → m < 2 ^ 32 → n < 2 ^ 32 → byte_order (to_be_bytes w32 m ++ x) (to_be_bytes w32 n ++ x) ≡ Less → m < n
number_less m n x lm ln is =
    let w = four_less (byte_at 3 m) (byte_at 2 m) (byte_at 1 m) (byte_at 0 m) (byte_at 3 n) (byte_at 2 n) (byte_at 1 n) (byte_at 0 n) x
    (omega arith) (omega arith) (omega arith) (omega arith) (omega arith) (omega arith) is in
    omega (arith, w, worth_is m lm, worth_is n ln)

-- ---- keys

pub onode_front : (c o rest : List ℕ) → onode_key c o ++ rest ≡ object_key 0x4f c o (0x6f ∷ rest)
onode_front c o rest =
    ap (λ (l : List ℕ). 0x4f ∷ l) (append_assoc c (0 ∷ (o ++ 0 ∷ (0x6f ∷ []))) rest ∙ ap (λ (l : List ℕ). c ++ 0 ∷ l) (append_assoc o (0 ∷ 0x6f ∷ []) rest))

abbrev pub page_bytes : ℕ → List ℕ
page_bytes page = to_be_bytes w32 page ++ 0x78 ∷ []

pub shard_front : (c o : List ℕ) (page : ℕ) → shard_key c o page ≡ onode_key c o ++ page_bytes page
shard_front c o page = sym (onode_front c o (page_bytes page))

module _ (c o : List ℕ) (coll : IsCollName c) (name : IsName o) where
  two_shards : (page other : ℕ) → byte_order (shard_key c o page) (shard_key c o other) ≡ byte_order (page_bytes page) (page_bytes other)
  two_shards page other =
      (λ i. byte_order (shard_front c o page i) (shard_front c o other i)) ∙ after_front (onode_key c o) (page_bytes page) (page_bytes other)

  pub lesser_page : (page other : ℕ) → page < 2 ^ 32 → other < 2 ^ 32 → byte_order (shard_key c o page) (shard_key c o other) ≡ Less → page < other
  lesser_page page other lp lo is = number_less page other (0x78 ∷ []) lp lo (sym (two_shards page other) ∙ is)

  pub lesser_shard : (page other : ℕ) → page < 2 ^ 32 → other < 2 ^ 32 → page < other → byte_order (shard_key c o page) (shard_key c o other) ≡ Less
  lesser_shard page other lp lo less =
      elim (byte_order (shard_key c o page) (shard_key c o other)) as (λ r. byte_order (shard_key c o page) (shard_key c o other) ≡ r → r ≡ Less) [
        | Less ↦ λ e. refl
        | Equal ↦ λ e. absurd (omega (arith, (same_shard c o c o page other coll name coll name lp lo (same_bytes (shard_key c o page) (shard_key c o other) e)).2))
        | Greater ↦ λ e. absurd (omega (arith, lesser_page other page lo lp (nat_list_cmp_total.antisymm (shard_key c o other) (shard_key c o page) ∙ ap ordering_reverse e)))
      ] refl

  pub onode_before : (page : ℕ) → byte_order (onode_key c o) (shard_key c o page) ≡ Less
  onode_before page =
      let whole : onode_key c o ≡ onode_key c o ++ [] = sym (append-nil (onode_key c o)) in
      (λ i. byte_order (whole i) (shard_front c o page i)) ∙ after_front (onode_key c o) [] (page_bytes page)

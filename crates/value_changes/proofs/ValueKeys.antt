-- The keys of an object's values: which are the same, which are in a range, and which rows have them.
use Rattle.std.proofs.Common.{◌≡◌, ◌≢◌, ℕ, zero, suc, ◌<◌, Bool, true, false, not, List, [], ◌∷◌, ◌++◌, refl, sym, ap, subst, ◌∙◌, append_assoc, arith}
use Rattle.std.specs.Prelude.{◌&&◌}
use Rattle.std.specs.Ordering.{is_lt, is_eq, ordering_then, nat_cmp, MatchOrdering}
use Rattle.std.specs.declared.cmp.Ordering.{Ordering}
use Rattle.std.specs.declared.cmp.Ordering.TheVariants.{Less, Equal, Greater}
use Rattle.std.proofs.lemmas.Cmp.{ranked}
use Rattle.byte_maps.specs.ByteMap.{byte_order, in_range}
use Rattle.object_model.specs.Prelude.{is_same}
use Rattle.row_format.specs.Prelude.{object_key, omap_key}
use Rattle.row_format.proofs.Prelude.{same_head}
use Rattle.row_reading.proofs.KeyOrder.{after_front, has_front}
use Rattle.object_rows.specs.Fronts.{values_first, values_end}
use Rattle.plan_rows.specs.Prelude.{ValueKey, attribute, header, pair, value_key}

-- ---- which are the same

pub object_front : (kind : ℕ) (c o x y : List ℕ) → byte_order (object_key kind c o x) (object_key kind c o y) ≡ byte_order x y
object_front kind c o x y =
    after_front (kind ∷ c) (0 ∷ (o ++ 0 ∷ x)) (0 ∷ (o ++ 0 ∷ y)) ∙ after_front (0 ∷ o) (0 ∷ x) (0 ∷ y) ∙ after_front (0 ∷ []) x y

-- whether two values are one
abbrev pub is_one : ValueKey → ValueKey → Bool
is_one (attribute a) (attribute b) = is_same a b
is_one header header = true
is_one (pair a) (pair b) = is_same a b
is_one a b = false

module _ (c o : List ℕ) where
  pub same_key : (a b : ValueKey) → is_same (value_key c o a) (value_key c o b) ≡ is_one a b
  same_key (attribute a) (attribute b) = ap is_eq (object_front 0x41 c o a b)
  same_key (attribute a) header = refl
  same_key (attribute a) (pair b) = refl
  same_key header (attribute b) = refl
  same_key header header = ap is_eq (object_front 0x4d c o (0x2d ∷ []) (0x2d ∷ []))
  same_key header (pair b) = ap is_eq (object_front 0x4d c o (0x2d ∷ []) (0x2e ∷ b))
  same_key (pair a) (attribute b) = refl
  same_key (pair a) header = ap is_eq (object_front 0x4d c o (0x2e ∷ a) (0x2d ∷ []))
  same_key (pair a) (pair b) = ap is_eq (object_front 0x4d c o (0x2e ∷ a) (0x2e ∷ b) ∙ after_front (0x2e ∷ []) a b)

-- ---- ranges

inside : (first end key : List ℕ) → in_range first end key ≡ true → (byte_order key first ≢ Less) × (byte_order key end ≡ Less)
inside first end key is = elim (byte_order key first) as
    (λ (a : Ordering). not (is_lt a) && is_lt (byte_order key end) ≡ true → (a ≢ Less) × (byte_order key end ≡ Less)) [
      | Less ↦ λ h. absurd cc
      | Equal ↦ λ h. ((λ e. absurd cc), below h)
      | Greater ↦ λ h. ((λ e. absurd cc), below h)
    ] is
  where
    below : is_lt (byte_order key end) ≡ true → byte_order key end ≡ Less
    below h = elim (byte_order key end) as (λ (o : Ordering). is_lt o ≡ true → o ≡ Less) [
      | Less ↦ λ e. refl
      | Equal ↦ λ e. absurd cc
      | Greater ↦ λ e. absurd cc
    ] h

-- what is from a zero on and below a one begins with a zero
zero_first : (rest : List ℕ) → byte_order rest (0 ∷ []) ≢ Less → byte_order rest (1 ∷ []) ≡ Less → (more : List ℕ) × (rest ≡ 0 ∷ more)
zero_first [] up down = absurd (up refl)
zero_first (zero ∷ more) up down = (more, refl)
zero_first (suc n ∷ more) up down = absurd (above (nat_cmp (suc n) 1) (ranked (suc n) 1 (nat_cmp (suc n) 1) refl) down)
  where
    not_less : (rest : List ℕ) → byte_order rest [] ≡ Less → ⊥
    not_less [] e = cc
    not_less (b ∷ bs) e = cc

    above : (r : Ordering) → MatchOrdering r (suc n < 1) (suc n ≡ 1) (1 < suc n) → ordering_then r (byte_order more []) ≡ Less → ⊥
    above Less h e = omega (arith, h)
    above Equal h e = not_less more e
    above Greater h e = cc

-- the keys that begin with a front and a zero
module _ (front : List ℕ) where
  pub in_front : (key : List ℕ) → in_range (front ++ 0 ∷ []) (front ++ 1 ∷ []) key ≡ true → (rest : List ℕ) × (key ≡ front ++ 0 ∷ rest)
  in_front key is =
      let p = inside (front ++ 0 ∷ []) (front ++ 1 ∷ []) key is in
      let has = has_front front key (0 ∷ []) (1 ∷ []) p.0 p.1 in
      let low : byte_order has.0 (0 ∷ []) ≢ Less =
      λ less. p.0 (ap (λ (k : List ℕ). byte_order k (front ++ 0 ∷ [])) has.1 ∙ after_front front has.0 (0 ∷ []) ∙ less) in
      let high : byte_order has.0 (1 ∷ []) ≡ Less =
      sym (after_front front has.0 (1 ∷ [])) ∙ ap (λ (k : List ℕ). byte_order k (front ++ 1 ∷ [])) (sym has.1) ∙ p.1 in
      let more = zero_first has.0 low high in
      (more.0, has.1 ∙ ap (λ (l : List ℕ). front ++ l) more.1)

  pub front_in : (rest : List ℕ) → in_range (front ++ 0 ∷ []) (front ++ 1 ∷ []) (front ++ 0 ∷ rest) ≡ true
  front_in rest = (λ i. not (is_lt (low i)) && is_lt (high i)) ∙ not_less rest
    where
      low : byte_order (front ++ 0 ∷ rest) (front ++ 0 ∷ []) ≡ byte_order rest []
      low = after_front front (0 ∷ rest) (0 ∷ []) ∙ after_front (0 ∷ []) rest []

      high : byte_order (front ++ 0 ∷ rest) (front ++ 1 ∷ []) ≡ Less
      high = after_front front (0 ∷ rest) (1 ∷ [])

      not_less : (rest : List ℕ) → not (is_lt (byte_order rest [])) && true ≡ true
      not_less [] = refl
      not_less (b ∷ bs) = refl

module _ (c o : List ℕ) where
  at_names : (kind : ℕ) (rest : List ℕ) → kind ∷ (c ++ 0 ∷ (o ++ rest)) ≡ (kind ∷ (c ++ 0 ∷ o)) ++ rest
  at_names kind rest = ap (λ (l : List ℕ). kind ∷ l) (sym (append_assoc c (0 ∷ o) rest))

  -- the keys in the range of a kind
  pub in_kind : (kind : ℕ) (key : List ℕ) → in_range (values_first kind c o) (values_end kind c o) key ≡ true
      → (rest : List ℕ) × (key ≡ object_key kind c o rest)
  in_kind kind key is =
      let found = in_front (kind ∷ (c ++ 0 ∷ o)) key ((λ i. in_range (sym (at_names kind (0 ∷ [])) i) (sym (at_names kind (1 ∷ [])) i) key) ∙ is) in
      (found.0, found.1 ∙ sym (at_names kind (0 ∷ found.0)))

  -- all keys of the kind are in it
  pub kind_in : (kind : ℕ) (rest : List ℕ) → in_range (values_first kind c o) (values_end kind c o) (object_key kind c o rest) ≡ true
  kind_in kind rest =
      (λ i. in_range (at_names kind (0 ∷ []) i) (at_names kind (1 ∷ []) i) (at_names kind (0 ∷ rest) i)) ∙ front_in (kind ∷ (c ++ 0 ∷ o)) rest

  -- and none of another kind
  pub kind_out : (kind other : ℕ) (rest : List ℕ) → other ≢ kind
      → in_range (values_first kind c o) (values_end kind c o) (object_key other c o rest) ≡ false
  kind_out kind other rest apart = elim (in_range (values_first kind c o) (values_end kind c o) (object_key other c o rest)) as
      (λ (b : Bool). in_range (values_first kind c o) (values_end kind c o) (object_key other c o rest) ≡ b → b ≡ false) [
        | true ↦ λ is. let k = in_kind kind (object_key other c o rest) is in absurd (apart (same_head _ _ _ _ k.1))
        | false ↦ λ is. refl
      ] refl

  -- pairs of the omap in a range of their keys
  pub pair_in : (first last key : List ℕ) → in_range (omap_key c o first) (omap_key c o last) (omap_key c o key) ≡ in_range first last key
  pair_in first last key = λ i. not (is_lt (pair_front key first i)) && is_lt (pair_front key last i)
    where
      pair_front : (a b : List ℕ) → byte_order (omap_key c o a) (omap_key c o b) ≡ byte_order a b
      pair_front a b = object_front 0x4d c o (0x2e ∷ a) (0x2e ∷ b) ∙ after_front (0x2e ∷ []) a b

  omap_front : (rest : List ℕ) → omap_key c o rest ≡ (0x4d ∷ (c ++ 0 ∷ (o ++ 0 ∷ 0x2e ∷ []))) ++ rest
  omap_front rest = sym (
      ap (λ (l : List ℕ). 0x4d ∷ l) (append_assoc c (0 ∷ (o ++ 0 ∷ 0x2e ∷ [])) rest ∙ ap (λ (l : List ℕ). c ++ 0 ∷ l) (append_assoc o (0 ∷ 0x2e ∷ []) rest)))

  pub in_pairs : (first last key : List ℕ) → in_range (omap_key c o first) (omap_key c o last) key ≡ true → (rest : List ℕ) × (key ≡ omap_key c o rest)
  in_pairs first last key is =
      let p = inside (omap_key c o first) (omap_key c o last) key is in
      let has = has_front (0x4d ∷ (c ++ 0 ∷ (o ++ 0 ∷ 0x2e ∷ []))) key first last
      (subst (λ (l : List ℕ). byte_order key l ≢ Less) (omap_front first) p.0)
      (subst (λ (l : List ℕ). byte_order key l ≡ Less) (omap_front last) p.1) in
      (has.0, has.1 ∙ sym (omap_front has.0))

  pub pairs_out : (first last key : List ℕ) → ((rest : List ℕ) → key ≢ omap_key c o rest) → in_range (omap_key c o first) (omap_key c o last) key ≡ false
  pairs_out first last key apart = elim (in_range (omap_key c o first) (omap_key c o last) key) as
      (λ (b : Bool). in_range (omap_key c o first) (omap_key c o last) key ≡ b → b ≡ false) [
        | true ↦ λ is. let k = in_pairs first last key is in absurd (apart k.0 k.1)
        | false ↦ λ is. refl
      ] refl

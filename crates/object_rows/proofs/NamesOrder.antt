-- Byte order of strings that end with a zero, or begin with the same byte.
use Rattle.std.proofs.Common.{◌≡◌, ◌≢◌, ℕ, ◌+◌, ◌<◌, List, [], ◌∷◌, ◌++◌, refl, sym, ap, ◌∙◌, arith}
use Rattle.std.specs.List.{AllByRecursion}
use Rattle.std.specs.Ordering.{nat_cmp, ordering_then, ordering_reverse, MatchOrdering}
use Rattle.std.specs.declared.cmp.Ordering.{Ordering}
use Rattle.std.specs.declared.cmp.Ordering.TheVariants.{Less, Equal, Greater}
use Rattle.std.proofs.lemmas.Cmp.{ranked, tied_itself, nat_cmp_total, nat_list_cmp_total}
use Rattle.byte_maps.specs.ByteMap.{byte_order}

-- ---- numbers

-- a number below another one compares so
pub lesser : (m n : ℕ) → m < n → nat_cmp m n ≡ Less
lesser m n lt = elim (nat_cmp m n) as (λ r. MatchOrdering r (m < n) (m ≡ n) (n < m) → r ≡ Less) [
  | Less ↦ λ h. refl
  | Equal ↦ λ h. absurd (omega (arith, h, lt))
  | Greater ↦ λ h. absurd (omega (arith, h, lt))
] (ranked m n (nat_cmp m n) refl)

-- and from the other side
greater : (m n : ℕ) → n < m → nat_cmp m n ≡ Greater
greater m n lt = nat_cmp_total.antisymm m n ∙ ap ordering_reverse (lesser n m lt)

-- ---- byte order, seen from the other side

-- a greater string, seen from the other one
pub turned : (x y : List ℕ) → byte_order x y ≡ Greater → byte_order y x ≡ Less
turned x y p = nat_list_cmp_total.antisymm y x ∙ ap ordering_reverse p

-- a lesser string, seen from the other one
pub turned_less : (x y : List ℕ) → byte_order x y ≡ Less → byte_order y x ≡ Greater
turned_less x y p = nat_list_cmp_total.antisymm y x ∙ ap ordering_reverse p

-- nothing is below the empty string
pub none_below : (x : List ℕ) → byte_order x [] ≢ Less
none_below [] e = cc
none_below (n ∷ x) e = cc

-- ---- strings that begin with the same byte

-- they compare as what stands behind the byte
pub same_first : (b : ℕ) (x y : List ℕ) → byte_order (b ∷ x) (b ∷ y) ≡ byte_order x y
same_first b x y = ap (λ (r : Ordering). ordering_then r (byte_order x y)) (tied_itself nat_cmp_total b)

-- strings with two first bytes
pub lesser_first : (m n : ℕ) (x y : List ℕ) → m < n → byte_order (m ∷ x) (n ∷ y) ≡ Less
lesser_first m n x y lt = ap (λ (r : Ordering). ordering_then r (byte_order x y)) (lesser m n lt)

-- a first byte of a lesser string is below, where what stands behind is not less
at_most : (n m : ℕ) (r : Ordering) → r ≢ Less → ordering_then (nat_cmp n m) r ≡ Less → n < m
at_most n m r apart is = elim (nat_cmp n m) as (λ o. MatchOrdering o (n < m) (n ≡ m) (m < n) → ordering_then o r ≡ Less → n < m) [
  | Less ↦ λ h e. h
  | Equal ↦ λ h e. absurd (apart e)
  | Greater ↦ λ h e. absurd cc
] (ranked n m (nat_cmp n m) refl) is

-- a first byte that is below makes a lesser string
at_least : (n b : ℕ) (r : Ordering) → ordering_then (nat_cmp n b) r ≢ Less → n < b → ⊥
at_least n b r apart lt = apart (ap (λ (o : Ordering). ordering_then o r) (lesser n b lt))

-- A string from `b ∷ x` on and below the next byte.
pub record BeginsWith (b : ℕ) (x l : List ℕ) : Type 0 where
  pub rest : List ℕ
  pub is : l ≡ b ∷ rest
  pub up : byte_order rest x ≢ Less

-- what lies there begins with the byte
pub begins : (b m : ℕ) (x l : List ℕ) → m ≡ b + 1 → byte_order l (b ∷ x) ≢ Less → byte_order l (m ∷ []) ≡ Less → BeginsWith b x l
begins b m x [] next up down = absurd (up refl)
begins b m x (n ∷ l) next up down =
    let high : n < m = at_most n m (byte_order l []) (none_below l) down in
    let low : n < b → ⊥ = at_least n b (byte_order l x) up in
    let is : n ≡ b = omega (arith, high, low, next) in
    record {
      rest = l;
      is = λ i. is i ∷ l;
      up = λ less. up (ap (λ (k : ℕ). byte_order (k ∷ l) (b ∷ x)) is ∙ same_first b l x ∙ less);
    }

-- ---- strings without a zero, ended by one

-- three comparisons, one after the other
then_then : (a b c : Ordering) → ordering_then a (ordering_then b c) ≡ ordering_then (ordering_then a b) c
then_then Less b c = refl
then_then Equal b c = refl
then_then Greater b c = refl

-- the strings decide; only where they are the same, what stands behind does
pub ended : (u a s t : List ℕ) → AllByRecursion (λ b. 0 < b) u → AllByRecursion (λ b. 0 < b) a
    → byte_order (u ++ 0 ∷ s) (a ++ 0 ∷ t) ≡ ordering_then (byte_order u a) (byte_order s t)
ended [] [] s t p q = same_first 0 s t
ended [] (m ∷ a) s t p q = lesser_first 0 m s (a ++ 0 ∷ t) q.0
ended (n ∷ u) [] s t p q = ap (λ (r : Ordering). ordering_then r (byte_order (u ++ 0 ∷ s) t)) (greater n 0 p.0)
ended (n ∷ u) (m ∷ a) s t p q =
    ap (ordering_then (nat_cmp n m)) (ended u a s t p.1 q.1) ∙ then_then (nat_cmp n m) (byte_order u a) (byte_order s t)

-- ---- the string right behind another one

-- what is not below a string with a zero behind is behind the string
pub behind_zero : (a d : List ℕ) → byte_order d (a ++ 0 ∷ []) ≢ Less → byte_order a d ≡ Less
behind_zero [] [] up = absurd (up refl)
behind_zero [] (m ∷ d) up = refl
behind_zero (n ∷ a) [] up = absurd (up refl)
behind_zero (n ∷ a) (m ∷ d) up =
    ap (λ (r : Ordering). ordering_then r (byte_order a d)) (nat_cmp_total.antisymm n m)
    ∙ (elim (nat_cmp m n) as (λ r. ordering_then r (byte_order d (a ++ 0 ∷ [])) ≢ Less → ordering_then (ordering_reverse r) (byte_order a d) ≡ Less) [
      | Less ↦ λ u. absurd (u refl)
      | Equal ↦ λ u. behind_zero a d u
      | Greater ↦ λ u. refl
    ] up)

-- one zero is the least string that is not empty
zero_least : (m : ℕ) (d : List ℕ) → byte_order (m ∷ d) (0 ∷ []) ≢ Less
zero_least m d less = omega (arith, at_most m 0 (byte_order d []) (none_below d) less)

-- what is behind a string is not below it with a zero behind
pub above_zero : (a d : List ℕ) → byte_order a d ≡ Less → byte_order d (a ++ 0 ∷ []) ≢ Less
above_zero [] [] less = absurd cc
above_zero [] (m ∷ d) less = zero_least m d
above_zero (n ∷ a) [] less = absurd cc
above_zero (n ∷ a) (m ∷ d) less =
    elim (nat_cmp m n) as (λ r. ordering_then (ordering_reverse r) (byte_order a d) ≡ Less → ordering_then r (byte_order d (a ++ 0 ∷ [])) ≢ Less) [
      | Less ↦ λ l e. absurd cc
      | Equal ↦ λ l. above_zero a d l
      | Greater ↦ λ l e. absurd cc
    ] (sym (ap (λ (r : Ordering). ordering_then r (byte_order a d)) (nat_cmp_total.antisymm n m)) ∙ less)

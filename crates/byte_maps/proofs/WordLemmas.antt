-- Keys compared eight bytes at a time.
use Rattle.std.proofs.Common.{◌≡◌, ◌≢◌, ◌⊎◌, inl, inr, ℕ, zero, suc, ◌+◌, ◌*◌, ◌<◌, ◌≤◌, List, [], ◌∷◌, length, get_or, take, drop, refl, sym, ap, ap₂, ◌∙◌, arith}
use Rattle.std.specs.Int.{w64, from_be_bytes}
use Rattle.std.specs.Ordering.{nat_cmp, ordering_then}
use Rattle.std.specs.declared.cmp.Ordering.{Ordering}
use Rattle.std.specs.declared.cmp.Ordering.TheVariants.{Less, Equal, Greater}
use Rattle.std.specs.Cmp.{nat_cmp_is}
use Rattle.std.proofs.lemmas.Bool.{cases_order}
use Rattle.std.proofs.lemmas.List.{get_or-drop}
use Rattle.byte_maps.specs.ByteMap.{byte_order}

abbrev pub AreBytes : List ℕ → Type 0
AreBytes xs = (k : ℕ) → get_or xs k 0 < 256

pub bytes_behind : (xs rest : List ℕ) → AreBytes xs → rest ≡ drop 8 xs → AreBytes rest
bytes_behind xs rest b is k = omega (arith, ap (λ (l : List ℕ). get_or l k 0) is, get_or-drop 8 xs k 0, b (8 + k))

level : (x y : ℕ) → x ≡ y → nat_cmp x y ≡ Equal
level x y e = sym (nat_cmp_is x y Equal e)

below : (x y : ℕ) → x < y → nat_cmp x y ≡ Less
below x y l = sym (nat_cmp_is x y Less l)

above : (x y : ℕ) → y < x → nat_cmp x y ≡ Greater
above x y l = sym (nat_cmp_is x y Greater l)

-- ---- numbers of several digits compare as the digits do, one after the other

module _ (u v x y : ℕ) (o : Ordering) (p : x < 256) (q : y < 256) where
  last_digit : u ≡ v → (x ≡ y) ⊎ ((x < y) ⊎ (y < x)) → ordering_then (nat_cmp x y) o ≡ ordering_then (nat_cmp (u * 256 + x) (v * 256 + y)) o
  last_digit e (inl same) = ap (λ r. ordering_then r o) (level x y same ∙ sym (level (u * 256 + x) (v * 256 + y) (omega (arith, e, same))))
  last_digit e (inr (inl less)) = ap (λ r. ordering_then r o) (below x y less ∙ sym (below (u * 256 + x) (v * 256 + y) (omega (arith, e, less))))
  last_digit e (inr (inr more)) = ap (λ r. ordering_then r o) (above x y more ∙ sym (above (u * 256 + x) (v * 256 + y) (omega (arith, e, more))))

  one_digit : (u ≡ v) ⊎ ((u < v) ⊎ (v < u)) → ordering_then (nat_cmp u v) (ordering_then (nat_cmp x y) o) ≡ ordering_then (nat_cmp (u * 256 + x) (v * 256 + y)) o
  one_digit (inl e) = ap (λ r. ordering_then r (ordering_then (nat_cmp x y) o)) (level u v e) ∙ last_digit e (cases_order x y)
  one_digit (inr (inl l)) = ap (λ r. ordering_then r (ordering_then (nat_cmp x y) o)) (below u v l)
      ∙ sym (ap (λ r. ordering_then r o) (below (u * 256 + x) (v * 256 + y) (omega (arith, l, p, q))))
  one_digit (inr (inr l)) = ap (λ r. ordering_then r (ordering_then (nat_cmp x y) o)) (above u v l)
      ∙ sym (ap (λ r. ordering_then r o) (above (u * 256 + x) (v * 256 + y) (omega (arith, l, p, q))))

-- the number of n digits, behind one
abbrev number : ℕ → ℕ → List ℕ → ℕ
number zero u xs = u
number (suc n) u [] = u
number (suc n) u (x ∷ xs) = number n (u * 256 + x) xs

by_digits : (n u v : ℕ) (xs ys : List ℕ) → n ≤ length xs → n ≤ length ys → AreBytes xs → AreBytes ys
    → ordering_then (nat_cmp u v) (byte_order xs ys) ≡ ordering_then (nat_cmp (number n u xs) (number n v ys)) (byte_order (drop n xs) (drop n ys))
by_digits zero u v xs ys p q bx by = refl
by_digits (suc n) u v [] ys p q bx by = absurd (omega arith)
by_digits (suc n) u v (x ∷ xs) [] p q bx by = absurd (omega arith)
by_digits (suc n) u v (x ∷ xs) (y ∷ ys) p q bx by =
    one_digit u v x y (byte_order xs ys) (bx 0) (by 0) (cases_order u v)
    ∙ by_digits n (u * 256 + x) (v * 256 + y) xs ys (omega arith) (omega arith) (λ k. bx (suc k)) (λ k. by (suc k))

-- ---- eight of them

spelled : (xs : List ℕ) → 8 ≤ length xs → number 8 0 xs ≡ from_be_bytes w64 (take 8 xs)
spelled (a ∷ b ∷ c ∷ d ∷ e ∷ f ∷ g ∷ h ∷ xs) l = omega arith
spelled [] l = absurd (omega arith)
spelled (a ∷ []) l = absurd (omega arith)
spelled (a ∷ b ∷ []) l = absurd (omega arith)
spelled (a ∷ b ∷ c ∷ []) l = absurd (omega arith)
spelled (a ∷ b ∷ c ∷ d ∷ []) l = absurd (omega arith)
spelled (a ∷ b ∷ c ∷ d ∷ e ∷ []) l = absurd (omega arith)
spelled (a ∷ b ∷ c ∷ d ∷ e ∷ f ∷ []) l = absurd (omega arith)
spelled (a ∷ b ∷ c ∷ d ∷ e ∷ f ∷ g ∷ []) l = absurd (omega arith)

decided : (x y : ℕ) (o : Ordering) → x ≢ y → (x ≡ y) ⊎ ((x < y) ⊎ (y < x)) → nat_cmp x y ≡ ordering_then (nat_cmp x y) o
decided x y o differ (inl e) = absurd (differ e)
decided x y o differ (inr (inl l)) = below x y l ∙ sym (ap (λ r. ordering_then r o) (below x y l))
decided x y o differ (inr (inr l)) = above x y l ∙ sym (ap (λ r. ordering_then r o) (above x y l))

module _ (xs ys : List ℕ) (bx : AreBytes xs) (by : AreBytes ys) (p : 8 ≤ length xs) (q : 8 ≤ length ys) (x y : ℕ)
    (is : x ≡ from_be_bytes w64 (take 8 xs)) (is' : y ≡ from_be_bytes w64 (take 8 ys)) where
  by_word : ordering_then (nat_cmp x y) (byte_order (drop 8 xs) (drop 8 ys)) ≡ byte_order xs ys
  by_word = ap₂ (λ (u v : ℕ). ordering_then (nat_cmp u v) (byte_order (drop 8 xs) (drop 8 ys))) (is ∙ sym (spelled xs p)) (is' ∙ sym (spelled ys q))
      ∙ sym (by_digits 8 0 0 xs ys p q bx by)

  pub word_decides : x ≢ y → nat_cmp x y ≡ byte_order xs ys
  word_decides differ = decided x y (byte_order (drop 8 xs) (drop 8 ys)) differ (cases_order x y) ∙ by_word

  pub word_same : x ≡ y → byte_order xs ys ≡ byte_order (drop 8 xs) (drop 8 ys)
  word_same e = sym (sym (ap (λ r. ordering_then r (byte_order (drop 8 xs) (drop 8 ys))) (level x y e)) ∙ by_word)

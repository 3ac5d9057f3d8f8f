-- The exclusive-or of byte strings, byte by byte.
use Rattle.std.proofs.Common.{◌≡◌, ℕ, zero, suc, ◌+◌, ◌<◌, ◌≤◌, Bool, true, false, List, [], ◌∷◌, length, get_or, take, set, refl, sym, ap, ap₂, ◌∙◌, arith, length-take-le}
use Rattle.std.specs.Prelude.{All, IsTrue, ◌↔◌, bit_xor, ◌==◌, ◌&&◌}
use Rattle.std.specs.List.{AllByRecursion}
use Rattle.std.proofs.lemmas.List.Elements.{All-from_recursion, recursion_from_All}
use Rattle.std.proofs.lemmas.List.{set-get_or}
use Rattle.std.proofs.lemmas.Nat.{xor_comm}
use Rattle.std.specs.Int.Bits.{xor_zero_r}
use Rattle.std.proofs.lemmas.Bool.{eqb-true, false≢true}
use Rattle.meta_rows.specs.Prelude.{xor_bytes, all_zero}

pub xor_bytes-none : (xs : List ℕ) → xor_bytes xs [] ≡ xs
xor_bytes-none [] = refl
xor_bytes-none (x ∷ xs) = refl

pub xor_bytes-comm : (xs ys : List ℕ) → xor_bytes xs ys ≡ xor_bytes ys xs
xor_bytes-comm [] ys = sym (xor_bytes-none ys)
xor_bytes-comm (x ∷ xs) [] = refl
xor_bytes-comm (x ∷ xs) (y ∷ ys) = ap₂ (λ (b : ℕ) (bs : List ℕ). b ∷ bs) (xor_comm x y) (xor_bytes-comm xs ys)

pub length-xor_bytes : (xs ys : List ℕ) → length (xor_bytes xs ys) ≤ length xs + length ys
length-xor_bytes [] ys = omega arith
length-xor_bytes (x ∷ xs) [] = omega arith
length-xor_bytes (x ∷ xs) (y ∷ ys) = omega (arith, length-xor_bytes xs ys)

-- the longer one keeps its length
pub length-xor_bytes_long : (xs ys : List ℕ) → length ys ≤ length xs → length (xor_bytes xs ys) ≡ length xs
length-xor_bytes_long [] [] h = refl
length-xor_bytes_long [] (y ∷ ys) h = absurd (omega arith)
length-xor_bytes_long (x ∷ xs) [] h = refl
length-xor_bytes_long (x ∷ xs) (y ∷ ys) h = ap suc (length-xor_bytes_long xs ys (omega arith))

-- one more byte of the shorter one
xor_bytes-take_suc : (xs ys : List ℕ) (i d e : ℕ) → i < length ys → length ys ≤ length xs
    → set (xor_bytes xs (take i ys)) i (bit_xor (get_or (xor_bytes xs (take i ys)) i d) (get_or ys i e)) ≡ xor_bytes xs (take (suc i) ys)
xor_bytes-take_suc xs [] i d e below h = absurd (omega arith)
xor_bytes-take_suc [] (y ∷ ys) i d e below h = absurd (omega arith)
xor_bytes-take_suc (x ∷ xs) (y ∷ ys) zero d e below h = ap (λ (bs : List ℕ). bit_xor x y ∷ bs) (sym (xor_bytes-none xs))
xor_bytes-take_suc (x ∷ xs) (y ∷ ys) (suc i) d e below h = ap (λ (bs : List ℕ). bit_xor x y ∷ bs) (xor_bytes-take_suc xs ys i d e (omega arith) (omega arith))

pub xor_bytes-take_more : (bytes xs ys zs : List ℕ) (i d e : ℕ) → zs ≡ ys → bytes ≡ xor_bytes xs (take i ys) → i < length zs → length ys ≤ length xs
    → set bytes i (bit_xor (get_or bytes i d) (get_or zs i e)) ≡ xor_bytes xs (take (i + 1) ys)
xor_bytes-take_more bytes xs ys zs i d e same is below h =
    let next : suc i ≡ i + 1 = omega arith in
    ap (λ (l : List ℕ). set bytes i (bit_xor (get_or bytes i d) (get_or l i e))) same
    ∙ ap (λ (bs : List ℕ). set bs i (bit_xor (get_or bs i d) (get_or ys i e))) is
    ∙ xor_bytes-take_suc xs ys i d e (omega (arith, below, ap length same)) h
    ∙ ap (λ (n : ℕ). xor_bytes xs (take n ys)) next

-- its place is one of the longer one
pub xor_bytes-place : (bytes xs ys zs : List ℕ) (i : ℕ) → zs ≡ ys → bytes ≡ xor_bytes xs (take i ys) → i < length zs → length ys ≤ length xs
    → i < length bytes
xor_bytes-place bytes xs ys zs i same is below h =
    let there : i < length ys = omega (arith, below, ap length same) in
    let some = length-take-le i ys (omega (arith, there)) in
    omega (arith, there, h, ap length is, length-xor_bytes_long xs (take i ys) (omega (arith, some, there, h)))

-- a byte of a mask that is zero leaves the byte
pub set-xor_zero : (bytes : List ℕ) (i mask : ℕ) → mask ≡ 0 → bytes ≡ set bytes i (bit_xor (get_or bytes i 0) mask)
set-xor_zero bytes i mask none =
    sym (ap (λ (m : ℕ). set bytes i (bit_xor (get_or bytes i 0) m)) none ∙ ap (λ (b : ℕ). set bytes i b) (xor_zero_r (get_or bytes i 0)) ∙ set-get_or bytes i 0)

-- ---- zeros

both_true : (a b : Bool) → (a && b) ≡ true → (a ≡ true) × (b ≡ true)
both_true true b is = (refl, is)
both_true false b is = absurd (false≢true is)

zero_first : (b : ℕ) (bs : List ℕ) → all_zero (b ∷ bs) ≡ true → (b ≡ 0) × (all_zero bs ≡ true)
zero_first b bs is = let both = both_true (b == 0) (all_zero bs) is in (eqb-true b 0 both.0, both.1)

zeros_of_test : (bs : List ℕ) → all_zero bs ≡ true → AllByRecursion (λ b. b ≡ 0) bs
zeros_of_test [] is = tt
zeros_of_test (b ∷ bs) is = let first = zero_first b bs is in (first.0, zeros_of_test bs first.1)

test_of_zeros : (bs : List ℕ) → AllByRecursion (λ b. b ≡ 0) bs → all_zero bs ≡ true
test_of_zeros [] is = refl
test_of_zeros (b ∷ bs) is = ap (λ n. n == 0 && all_zero bs) is.0 ∙ test_of_zeros bs is.1

pub all_zero-from_All : (bs : List ℕ) → All (λ b. b ≡ 0) bs → all_zero bs ≡ true
all_zero-from_All bs is = test_of_zeros bs (recursion_from_All (λ b. b ≡ 0) bs is)

pub All-from_all_zero : (bs : List ℕ) → all_zero bs ≡ true → All (λ b. b ≡ 0) bs
All-from_all_zero bs is = All-from_recursion (λ b. b ≡ 0) bs (zeros_of_test bs is)

-- the two tests answer alike
pub zeros_or_not : (bs held : List ℕ) (is : Bool) → held ≡ bs → (IsTrue is ↔ All (λ b. b ≡ 0) held) → is ≡ all_zero bs
zeros_or_not bs held is same test = alike is (all_zero bs) (λ t. ap all_zero (sym same) ∙ all_zero-from_All held (test.0 t)) (λ t. test.1 (All-from_all_zero held (ap all_zero same ∙ t)))
  where
    alike : (a b : Bool) → (a ≡ true → b ≡ true) → (b ≡ true → a ≡ true) → a ≡ b
    alike true b on back = sym (on refl)
    alike false true on back = back refl
    alike false false on back = refl

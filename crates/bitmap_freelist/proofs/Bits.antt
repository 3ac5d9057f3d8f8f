-- Bits of exclusive-ors, and of masks that are made bit by bit.
use Rattle.std.proofs.Common.{◌≡◌, ◌≢◌, ◌↔◌, ◌⊎◌, inl, inr, ⊎_elim, ℕ, zero, suc, ◌+◌, ◌*◌, ◌/◌, ◌%◌, ◌^◌, ◌<◌, ◌≤◌, true, List, [], ◌∷◌, length}
use Rattle.std.proofs.Common.{get_or, set, replicate, bit_or, bit_xor, refl, sym, ap, ap₂, ◌∙◌, arith, w8}
use Rattle.std.specs.Int.{bit_at}
use Rattle.std.specs.Int.Bits.{xor_assoc}
use Rattle.std.specs.List.{AllByRecursion}
use Rattle.std.specs.Int.Bits.{xor_self, xor_zero_l, xor_zero_r}
use Rattle.std.proofs.lemmas.Nat.Bits.{bit_at_xor, bit_at-zero, bit_at_set_same, bit_at_set_other}
use Rattle.std.proofs.lemmas.Bool.{cases_eq}
use Rattle.std.proofs.lemmas.List.{get_or-set_same, get_or-set_other, length-set}
use Rattle.std.proofs.lemmas.List.Elements.{recursion_from_All}
use Rattle.meta_rows.specs.Prelude.{xor_bytes, all_zero}
use Rattle.meta_rows.proofs.XorLemmas.{All-from_all_zero}
use Rattle.row_format.specs.Prelude.{bit_in}
use Rattle.bitmap_freelist.specs.Masks.{with_bit, with_bits, mask_of}

-- ---- exclusive-ors

-- a byte of an exclusive-or
at-xor_bytes : (xs ys : List ℕ) (i : ℕ) → get_or (xor_bytes xs ys) i 0 ≡ bit_xor (get_or xs i 0) (get_or ys i 0)
at-xor_bytes [] ys i = sym (xor_zero_l (get_or ys i 0))
at-xor_bytes (x ∷ xs) [] i = sym (xor_zero_r (get_or (x ∷ xs) i 0))
at-xor_bytes (x ∷ xs) (y ∷ ys) zero = refl
at-xor_bytes (x ∷ xs) (y ∷ ys) (suc i) = at-xor_bytes xs ys i

-- a bit of an exclusive-or
pub bit_in-xor_bytes : (xs ys : List ℕ) (unit : ℕ) → bit_in (xor_bytes xs ys) unit ≡ (bit_in xs unit + bit_in ys unit) % 2
bit_in-xor_bytes xs ys unit =
    let at = unit % 128 / 8 in
    ap (λ n. bit_at n (unit % 8)) (at-xor_bytes xs ys at) ∙ bit_at_xor (get_or xs at 0) (get_or ys at 0) (unit % 8)

-- a byte of zeros
zero_at : (bytes : List ℕ) (i : ℕ) → AllByRecursion (λ b. b ≡ 0) bytes → get_or bytes i 0 ≡ 0
zero_at [] i all = refl
zero_at (b ∷ bytes) zero all = all.0
zero_at (b ∷ bytes) (suc i) all = zero_at bytes i all.1

-- each byte of zeros is 0
zeros : (bytes : List ℕ) → all_zero bytes ≡ true → AllByRecursion (λ b. b ≡ 0) bytes
zeros bytes is = recursion_from_All (λ b. b ≡ 0) bytes (All-from_all_zero bytes is)

-- a bit of zeros
pub bit_in-zeros : (bytes : List ℕ) (unit : ℕ) → all_zero bytes ≡ true → bit_in bytes unit ≡ 0
bit_in-zeros bytes unit is = ap (λ n. bit_at n (unit % 8)) (zero_at bytes (unit % 128 / 8) (zeros bytes is)) ∙ bit_at-zero (unit % 8)

-- the exclusive-or of three
pub xor_bytes-assoc : (xs ys zs : List ℕ) → xor_bytes (xor_bytes xs ys) zs ≡ xor_bytes xs (xor_bytes ys zs)
xor_bytes-assoc [] ys zs = refl
xor_bytes-assoc (x ∷ xs) [] zs = refl
xor_bytes-assoc (x ∷ xs) (y ∷ ys) [] = refl
xor_bytes-assoc (x ∷ xs) (y ∷ ys) (z ∷ zs) = ap₂ (λ (b : ℕ) (bs : List ℕ). b ∷ bs) (xor_assoc x y z) (xor_bytes-assoc xs ys zs)

-- zeros change nothing that is as long
by_zeros : (xs ys : List ℕ) → AllByRecursion (λ b. b ≡ 0) xs → length xs ≤ length ys → xor_bytes xs ys ≡ ys
by_zeros [] ys all le = refl
by_zeros (x ∷ xs) [] all le = absurd (omega arith)
by_zeros (x ∷ xs) (y ∷ ys) all le =
    ap₂ (λ (b : ℕ) (bs : List ℕ). b ∷ bs) (ap (λ n. bit_xor n y) all.0 ∙ xor_zero_l y) (by_zeros xs ys all.1 (omega arith))

-- zeros change nothing that is as long
pub xor_bytes-zeros : (xs ys : List ℕ) → all_zero xs ≡ true → length xs ≤ length ys → xor_bytes xs ys ≡ ys
xor_bytes-zeros xs ys is le = by_zeros xs ys (zeros xs is) le

-- the exclusive-or with itself
pub xor_bytes-self : (xs : List ℕ) → all_zero (xor_bytes xs xs) ≡ true
xor_bytes-self [] = refl
xor_bytes-self (x ∷ xs) = ap (λ n. all_zero (n ∷ xor_bytes xs xs)) (xor_self x) ∙ xor_bytes-self xs

-- the longer one keeps its length
pub length-xor_same : (xs ys : List ℕ) → length xs ≤ length ys → length (xor_bytes xs ys) ≡ length ys
length-xor_same [] ys le = refl
length-xor_same (x ∷ xs) [] le = absurd (omega arith)
length-xor_same (x ∷ xs) (y ∷ ys) le = ap suc (length-xor_same xs ys (omega arith))

-- ---- masks

-- the unit is one of these
abbrev pub IsIn : ℕ → List ℕ → Type 0
IsIn unit [] = ⊥
IsIn unit (u ∷ us) = (u ≡ unit) ⊎ IsIn unit us

-- a unit's byte is one of 16
place_below : (unit : ℕ) → unit % 128 / 8 < 16
place_below unit = omega arith

-- and its bit one of 8
bit_below : (unit : ℕ) → unit % 8 < 8
bit_below unit = omega arith

-- a set bit leaves the length
length-with_bit : (mask : List ℕ) (u : ℕ) → length mask ≡ 16 → length (with_bit mask u) ≡ 16
length-with_bit mask u size = length-set mask (u % 128 / 8) _ ∙ size

-- so do any number of them
pub length-with_bits : (us mask : List ℕ) → length mask ≡ 16 → length (with_bits mask us) ≡ 16
length-with_bits [] mask size = size
length-with_bits (u ∷ us) mask size = length-with_bits us (with_bit mask u) (length-with_bit mask u size)

-- the bit that was set
bit_set : (mask : List ℕ) (u : ℕ) → length mask ≡ 16 → bit_in (with_bit mask u) u ≡ 1
bit_set mask u size =
    let at = u % 128 / 8 in
    let byte = bit_or (get_or mask at 0) (1 * 2 ^ (u % 8) % 2 ^ 8) in
    ap (λ n. bit_at n (u % 8)) (get_or-set_same mask at byte 0 (omega (arith, place_below u, size)))
    ∙ bit_at_set_same w8 (get_or mask at 0) (u % 8) (bit_below u)

-- and another one
bit_kept : (mask : List ℕ) (u unit : ℕ) → length mask ≡ 16 → u % 128 ≢ unit % 128 → bit_in (with_bit mask u) unit ≡ bit_in mask unit
bit_kept mask u unit size apart =
    let at = u % 128 / 8 in
    let byte = bit_or (get_or mask at 0) (1 * 2 ^ (u % 8) % 2 ^ 8) in
    elim (cases_eq (unit % 128 / 8) at) [
      | inl same ↦
          let bits : unit % 8 ≢ u % 8 = λ e. apart (omega (arith, same, e)) in
          ap (λ j. bit_at (get_or (set mask at byte) j 0) (unit % 8)) same
          ∙ ap (λ n. bit_at n (unit % 8)) (get_or-set_same mask at byte 0 (omega (arith, place_below u, size)))
          ∙ bit_at_set_other w8 (get_or mask at 0) (u % 8) (bit_below u) (unit % 8) bits
          ∙ ap (λ j. bit_at (get_or mask j 0) (unit % 8)) (sym same)
      | inr other ↦ ap (λ n. bit_at n (unit % 8)) (get_or-set_other mask at (unit % 128 / 8) byte 0 other)
    ]

-- of the units of a row, exactly those that were set have a 1
with_bits_are : (us mask : List ℕ) (r unit : ℕ) → length mask ≡ 16 → AllByRecursion (λ u. u / 128 ≡ r) us → unit / 128 ≡ r
    → (bit_in (with_bits mask us) unit ≡ 1) ↔ ((bit_in mask unit ≡ 1) ⊎ IsIn unit us)
with_bits_are [] mask r unit size all own = (λ is. inl is, ⊎_elim (λ is. is) (λ no. absurd no))
with_bits_are (u ∷ us) mask r unit size all own =
    let later = with_bits_are us (with_bit mask u) r unit (length-with_bit mask u size) all.1 own in
    elim (cases_eq u unit) [
      | inl same ↦ (
        λ is. inr (inl same),
        λ is. later.1 (inl (ap (bit_in (with_bit mask u)) (sym same) ∙ bit_set mask u size)),
      )
      | inr other ↦
          let kept = bit_kept mask u unit size (λ e. other (omega (arith, e, all.0, own))) in (
            λ is. ⊎_elim (λ held. inl (sym kept ∙ held)) (λ there. inr (inr there)) (later.0 is),
            λ is. later.1 (⊎_elim (λ held. inl (kept ∙ held)) (⊎_elim (λ same. absurd (other same)) (λ there. inr there)) is),
          )
    ]

-- zeros have no bit that is 1
no_bits : (unit : ℕ) → bit_in (replicate 16 0) unit ≡ 0
no_bits unit = bit_in-zeros (replicate 16 0) unit refl

-- a mask has 16 bytes
pub mask_of-size : (us : List ℕ) → length (mask_of us) ≡ 16
mask_of-size us = length-with_bits us (replicate 16 0) refl

-- and exactly the bits of its units
pub mask_of_are : (us : List ℕ) (r unit : ℕ) → AllByRecursion (λ u. u / 128 ≡ r) us → unit / 128 ≡ r → (bit_in (mask_of us) unit ≡ 1) ↔ IsIn unit us
mask_of_are us r unit all own =
    let are = with_bits_are us (replicate 16 0) r unit refl all own in
    (λ is. ⊎_elim (λ one. absurd (omega (arith, one, no_bits unit))) (λ there. there) (are.0 is), λ there. are.1 (inr there))

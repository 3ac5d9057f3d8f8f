-- What each step of reading a slot tells.
use Rattle.std.proofs.Common.{◌≡◌, ℕ, ◌%◌, List, ◌++◌, length, take, drop, replicate, refl, sym, ap, ap₂, subst, ◌∙◌, arith}
use Rattle.std.specs.Prelude.{All}
use Rattle.std.specs.Int.{w32, to_le_bytes, from_le_bytes}
use Rattle.std.proofs.lemmas.List.{take-append-drop, length-replicate, get_or-replicate, ext_get_or}
use Rattle.std.proofs.lemmas.List.Elements.{All-get_or, All-replicate}
use Rattle.crc32c_csum.specs.Prelude.{crc32c}
use Rattle.byte_maps.specs.Units.{zeros}
use Rattle.unit_fields.specs.Prelude.{IsTooShort, ReadsBytes, ReadsNumber}
use Rattle.meta_log.specs.declared.slot.Super.{Super}
use Rattle.meta_rows.proofs.FieldLemmas.{same_front}
use Rattle.meta_log.proofs.SlotLemmas.{HasWidths, widths, same_front_of, length-super_fields}
use Rattle.meta_log.specs.Prelude.{magic, version_bytes, super_front, super_fields, with_sum, IsSummed, IsSuper, IsSlotOf}

-- ---- zeros

pub zeros_of_all : (n : ℕ) (xs : List ℕ) → length xs ≡ n → All (λ b. b ≡ 0) xs → xs ≡ zeros n
unfolding zeros
zeros_of_all n xs size all = ext_get_or 0 xs (replicate n 0) (size ∙ sym (length-replicate n 0)) (λ i lt. All-get_or (λ b. b ≡ 0) xs i 0 lt all ∙ sym (get_or-replicate n i 0 0 (omega (arith, lt, size))))

pub all_of_zeros : (n : ℕ) (xs : List ℕ) → xs ≡ zeros n → All (λ b. b ≡ 0) xs
unfolding zeros
all_of_zeros n xs is = subst (All (λ b. b ≡ 0)) (sym is) (All-replicate (λ b. b ≡ 0) n 0 refl)

-- ---- the checksum

-- the two parts that bytes were cut into
pub parts_of : (k : ℕ) (unit body sum : List ℕ) → body ≡ take k unit → sum ≡ drop k unit → unit ≡ body ++ sum
parts_of k unit body sum front back = sym (ap₂ (λ (a b : List ℕ). a ++ b) front back ∙ take-append-drop k unit)

before_sum : (a b : List ℕ) → length a ≡ 4092 → length b ≡ 4092 → with_sum a ≡ with_sum b → a ≡ b
before_sum a b long same e = (same_front a b (to_le_bytes w32 (crc32c a)) (to_le_bytes w32 (crc32c b)) (long ∙ sym same) e).0

-- ---- the magic and the version

pub behind_magic : (old left piece rest : List ℕ) → ReadsBytes 8 old left piece → old ≡ version_bytes ++ rest → (piece ≡ magic) × (left ≡ to_le_bytes w32 1 ++ rest)
behind_magic old left piece rest read is = same_front piece magic left (to_le_bytes w32 1 ++ rest) read.size (sym read.parts ∙ is)

pub version_there : (left new rest : List ℕ) → IsTooShort 4 left new → left ≡ to_le_bytes w32 1 ++ rest → ⊥
version_there left new rest short is = omega (arith, short.too_few, ap length is)

pub version_one : (left new rest : List ℕ) (version : ℕ) → ReadsNumber (from_le_bytes w32) (to_le_bytes w32) left new version → left ≡ to_le_bytes w32 1 ++ rest → version ≡ 1
version_one left new rest version read is = read.value_is ∙ ap (from_le_bytes w32) is

-- ---- the slot

pub body_of : (unit body : List ℕ) (s : Super) (at : ℕ) → IsSummed body unit → IsSlotOf at unit s → body ≡ super_fields s
body_of unit body s at summed is = before_sum body (super_fields s) summed.size (length-super_fields s) (sym summed.spelled ∙ is.spelled)

-- A super that a slot holds is the one that was read, and zeros are left behind its front.
pub only_super : (unit body rest : List ℕ) (found s : Super) (at : ℕ) → HasWidths found → IsSummed body unit → body ≡ super_front found ++ rest → IsSlotOf at unit s → (found ≡ s) × (rest ≡ zeros 4052)
only_super unit body rest found s at wide summed front is =
    same_front_of found s rest (zeros 4052) wide (widths s is.limits) (sym front ∙ body_of unit body s at summed is)

pub is_slot : (unit body rest : List ℕ) (s : Super) (at : ℕ) → IsSummed body unit → body ≡ super_front s ++ rest → IsSuper s → s.epoch % 2 ≡ at → All (λ b. b ≡ 0) rest → IsSlotOf at unit s
is_slot unit body rest s at summed front limits own zero =
    let size : length rest ≡ 4052 = omega (arith, summed.size, ap length front) in
    let same : body ≡ super_fields s = front ∙ ap (λ (r : List ℕ). super_front s ++ r) (zeros_of_all 4052 rest size zero) in
    record { spelled = summed.spelled ∙ ap with_sum same; limits = limits; own_epoch = own }

-- The bits of a row of the bitmap, one after another.
use Rattle.std.proofs.Common.{◌≡◌, inl, inr, ℕ, ◌+◌, ◌*◌, ◌/◌, ◌%◌, ◌^◌, ◌<◌, ◌≤◌, List, slice_index, sym, ap, subst, ◌∙◌, arith}
use Rattle.std.proofs.lemmas.Bool.{cases_lt}
use Rattle.meta_log.specs.declared.slot.Super.{Super}
use Rattle.row_format.specs.Prelude.{bit_row, bit_in}
use Rattle.store_image.specs.Prelude.{IsDataUnit, AreOfData}
use Rattle.row_check.specs.DataBits.{bit_at_place, IsBitOfData}

-- the bits before this place that are 1 are of data units
abbrev pub AreOfDataTo : Super → ℕ → List ℕ → ℕ → Type 0
AreOfDataTo s r bits n = (unit : ℕ) → bit_row unit ≡ r → unit % 128 < n → bit_in bits unit ≡ 1 → IsDataUnit s unit

bit_there : (bits : List ℕ) (unit place : ℕ) → unit % 128 ≡ place → bit_in bits unit ≡ bit_at_place bits place
bit_there bits unit place e =
    let byte : unit % 128 / 8 ≡ place / 8 = ap (λ n. n / 8) e in
    let bit : unit % 8 ≡ place % 8 = omega (arith, e) in
    ap (λ n. slice_index bits n / 2 ^ (unit % 8) % 2) byte ∙ ap (λ k. slice_index bits (place / 8) / 2 ^ k % 2) bit

-- the unit of the bit at a place
unit_there : (r unit place : ℕ) → bit_row unit ≡ r → unit % 128 ≡ place → unit ≡ 128 * r + place
unit_there r unit place row at = omega (arith, row, at)

module _ (s : Super) (r : ℕ) (bits : List ℕ) where
  pub no_place : AreOfDataTo s r bits 0
  no_place unit row before one = absurd (omega (arith, before))

  pub next_place : (place : ℕ) → AreOfDataTo s r bits place → IsBitOfData s r bits place
      → AreOfDataTo s r bits (place + 1)
  next_place place old here unit row before one = elim (cases_lt (unit % 128) place) [
    | inl lt ↦ old unit row lt one
    | inr ge ↦
        let at : unit % 128 ≡ place = omega (arith, ge, before) in
        subst (IsDataUnit s) (sym (unit_there r unit place row at)) (here (sym (bit_there bits unit place at) ∙ one))
  ]

  pub all_places : (n : ℕ) → 128 ≤ n → AreOfDataTo s r bits n → AreOfData s r bits
  all_places n le all unit row one = all unit row (omega (arith, le)) one

  -- a bit that is 1 and of no data unit
  pub not_of_data : (place : ℕ) → place < 128 → ¬ (IsBitOfData s r bits place) → ¬ (AreOfData s r bits)
  not_of_data place below none all = none (λ one.
      let unit = 128 * r + place in
      let at : unit % 128 ≡ place = omega (arith, below) in
      let row : bit_row unit ≡ r = omega (arith, below) in
      all unit row (bit_there bits unit place at ∙ one))

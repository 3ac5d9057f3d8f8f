-- Slots that are spelled are read again.
use Rattle.std.proofs.Common.{◌≡◌, ℕ, ◌≤◌, List, [], ◌∷◌, ◌++◌, length, refl, ap, ◌∙◌, arith}
use Rattle.std.specs.List.{flat_map, AllByRecursion}
use Rattle.std.specs.Int.{w16, w32, to_le_bytes}
use Rattle.std.proofs.lemmas.List.Concat.{flat_map-cons}
use Rattle.std.proofs.lemmas.Nat.{from_le_bytes-to_le_bytes_2, from_le_bytes-to_le_bytes_4}
use Rattle.unit_fields.specs.declared.width.Width.{Width}
use Rattle.unit_fields.specs.declared.width.Width.TheVariants.{FourBytes}
use Rattle.row_format.specs.Prelude.{csum_in, Slot, slot_bytes, FitsSlot, slots_in, slots_read}

-- so many of them
those_again : (w : Width) (xs : List Slot) → AllByRecursion (FitsSlot w) xs → slots_in w (length xs) (flat_map (slot_bytes w) xs) ≡ xs
unfolding csum_in
those_again w [] fit = refl
those_again FourBytes (x ∷ xs) fit =
    ap (slots_in FourBytes (length (x ∷ xs))) (flat_map-cons (slot_bytes FourBytes) x xs)
    ∙ (λ i. record { csum = from_le_bytes-to_le_bytes_4 x.csum fit.0.0 i; count = from_le_bytes-to_le_bytes_4 x.count fit.0.1 i }
    ∷ those_again FourBytes xs fit.1 i)

-- those of a blob's row
pub slots_again : (w : Width) (first : ℕ) (xs : List Slot) → length xs ≤ 256 → AllByRecursion (FitsSlot w) xs
    → slots_read w (to_le_bytes w32 first ++ (to_le_bytes w16 (length xs) ++ flat_map (slot_bytes w) xs)) ≡ xs
unfolding slots_read
slots_again w first xs few fit =
    ap (λ (n : ℕ). slots_in w n (flat_map (slot_bytes w) xs)) (from_le_bytes-to_le_bytes_2 (length xs) (omega (arith, few)))
    ∙ those_again w xs fit

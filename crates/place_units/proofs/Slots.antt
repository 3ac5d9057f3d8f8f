-- A slot is read without those before it.
use Rattle.std.proofs.Common.{◌≡◌, ℕ, zero, suc, ◌+◌, ◌*◌, ◌<◌, ◌≤◌, List, drop, Option, Some, None, refl, sym, ap, ◌∙◌, arith}
use Rattle.std.specs.Prelude.{slice_get}
use Rattle.std.specs.Int.{w16, from_le_bytes, to_le_bytes}
use Rattle.std.specs.Option.{option_map_or}
use Rattle.std.proofs.lemmas.List.{drop-drop, drop_at}
use Rattle.unit_fields.specs.declared.width.Width.{Width}
use Rattle.unit_fields.specs.Prelude.{bytes_of, ReadsNumber, ReadsBytes}
use Rattle.unit_fields.specs.declared.width.Width.TheVariants.{FourBytes}
use Rattle.row_format.specs.Prelude.{csum_in, Slot, slot_in, slots_in, slots_read}
use Rattle.onode_codec.specs.Reading.{ReadsCsum}
use Rattle.row_reading.specs.Slots.{slots_size}
use Rattle.plan_rows.specs.Prelude.{slot_unit}
use Rattle.place_units.specs.Blobs.{csum_of_slot}

slot_at : (w : Width) (n i : ℕ) (bytes : List ℕ) → i < n → slice_get (slots_in w n bytes) i ≡ Some (slot_in w (drop (slots_size w i) bytes))
slot_at w zero i bytes lt = absurd (omega (arith, lt))
slot_at FourBytes (suc n) zero bytes lt = let none : 0 ≡ 4 * 0 + 4 * 0 = omega arith in ap (λ (k : ℕ). Some (slot_in FourBytes (drop k bytes))) none
slot_at FourBytes (suc n) (suc i) bytes lt =
    let eight : 8 + (4 * i + 4 * i) ≡ 4 * suc i + 4 * suc i = omega arith in
    slot_at FourBytes n i (drop 8 bytes) (omega (arith, lt))
    ∙ ap (λ (l : List ℕ). Some (slot_in FourBytes l)) (drop-drop (4 * i + 4 * i) 8 bytes ∙ ap (λ (k : ℕ). drop k bytes) eight)

none_at : (w : Width) (n i : ℕ) (bytes : List ℕ) → n ≤ i → slice_get (slots_in w n bytes) i ≡ None
none_at w zero i bytes le = refl
none_at w (suc n) zero bytes le = absurd (omega (arith, le))
none_at w (suc n) (suc i) bytes le = none_at w n i (drop (bytes_of w 1 + 4) bytes) (omega (arith, le))

pub csum_there : (w : Width) (bytes : List ℕ) (index : ℕ) → index < from_le_bytes w16 bytes
    → csum_of_slot w bytes index ≡ csum_in w (drop (2 + slots_size w index) bytes)
csum_there w bytes index lt =
    ap (λ (x : Option Slot). option_map_or (λ (y : Slot). y.csum) x 0) (slot_at w (from_le_bytes w16 bytes) index (drop 2 bytes) lt)
    ∙ ap (csum_in w) (drop-drop (slots_size w index) 2 bytes)

pub csum_missing : (w : Width) (bytes : List ℕ) (index : ℕ) → from_le_bytes w16 bytes ≤ index → csum_of_slot w bytes index ≡ 0
csum_missing w bytes index le =
    ap (λ (x : Option Slot). option_map_or (λ (y : Slot). y.csum) x 0) (none_at w (from_le_bytes w16 bytes) index (drop 2 bytes) le)

-- what stands behind a number and so many bytes
behind : (fields mid new piece : List ℕ) (count before : ℕ) → ReadsNumber (from_le_bytes w16) (to_le_bytes w16) fields mid count
    → ReadsBytes before mid new piece → new ≡ drop (2 + before) fields
behind fields mid new piece count before read passed =
    sym (drop_at piece new before passed.size) ∙ ap (drop before) (sym passed.parts) ∙ ap (drop before) (sym (ap (drop 2) read.spelled))
    ∙ drop-drop before 2 fields

-- the checksum that was read there is that of the slot
pub csum_read : (w : Width) (fields mid new piece left : List ℕ) (count before index csum : ℕ)
    → ReadsNumber (from_le_bytes w16) (to_le_bytes w16) fields mid count → ReadsBytes before mid new piece → before ≡ slots_size w index
    → index < count → ReadsCsum w new left csum → csum ≡ csum_of_slot w fields index
csum_read w fields mid new piece left count before index csum read passed is lt one =
    one.is ∙ ap (csum_in w) (behind fields mid new piece count before read passed ∙ ap (λ n. drop (2 + n) fields) is)
    ∙ sym (csum_there w fields index (omega (arith, lt, read.value_is)))

-- it is behind the first unit in the value of the blob's row
pub csum_in_value : (w : Width) (value : List ℕ) (index : ℕ) → csum_of_slot w (drop 4 value) index ≡ (slot_unit w (Some value) index).csum
unfolding slots_read
csum_in_value w value index =
    ap (λ (l : List ℕ). option_map_or (λ (y : Slot). y.csum) (slice_get (slots_in w (from_le_bytes w16 (drop 4 value)) l) index) 0) (drop-drop 2 4 value)

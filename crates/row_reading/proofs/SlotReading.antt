-- Slots read one behind the other.
use Rattle.std.proofs.Common.{◌≡◌, ℕ, ◌+◌, ◌<◌, ◌^◌, List, [], ◌∷◌, ◌++◌, length, refl, sym, ap, ◌∙◌, append_assoc, append-nil, arith}
use Rattle.std.specs.List.{flat_map, AllByRecursion}
use Rattle.std.specs.Int.{w32, to_le_bytes, from_le_bytes}
use Rattle.std.proofs.lemmas.List.{length-append, length_push}
use Rattle.std.proofs.lemmas.List.Concat.{flat_map-cons, flat_map-append}
use Rattle.unit_fields.specs.declared.width.Width.{Width}
use Rattle.unit_fields.specs.declared.width.Width.TheVariants.{FourBytes}
use Rattle.unit_fields.specs.Prelude.{ReadsNumber, bytes_of}
use Rattle.row_format.specs.Prelude.{Slot, slot_bytes, FitsSlot}
use Rattle.onode_codec.specs.Reading.{ReadsCsum}
use Rattle.row_reading.specs.Slots.{slots_size, ReadsSlot, ReadsSlots}

pub length-slots : (w : Width) (xs : List Slot) → length (flat_map (slot_bytes w) xs) ≡ slots_size w (length xs)
length-slots FourBytes [] = refl
length-slots FourBytes (x ∷ xs) =
    ap length (flat_map-cons (slot_bytes FourBytes) x xs)
    ∙ length-append (slot_bytes FourBytes x) (flat_map (slot_bytes FourBytes) xs)
    ∙ omega (arith, length-slots FourBytes xs)

-- a checksum and a count are a slot
pub slot_of : (w : Width) (old mid new : List ℕ) (csum count : ℕ) → ReadsCsum w old mid csum → count < 2 ^ 32
    → ReadsNumber (from_le_bytes w32) (to_le_bytes w32) mid new count → ReadsSlot w old new (record { csum = csum; count = count })
slot_of FourBytes old mid new csum count one below two = record {
  fits = (one.fits, below);
  spelled = one.spelled ∙ ap (λ (l : List ℕ). to_le_bytes w32 csum ++ l) two.spelled;
}

pub slot_short : (w : Width) (old mid : List ℕ) (csum : ℕ) → ReadsCsum w old mid csum → length mid < 4 → length old < bytes_of w 1 + 4
slot_short FourBytes old mid csum one few = omega (arith, few, ap length one.spelled)

pub slots_none : (w : Width) (old : List ℕ) → ReadsSlots w 0 old old []
slots_none w old = record { size = refl; fit = tt; spelled = refl }

fits_push : (w : Width) (xs : List Slot) (x : Slot) → FitsSlot w x → AllByRecursion (FitsSlot w) xs → AllByRecursion (FitsSlot w) (xs ++ x ∷ [])
fits_push w [] x fits all = (fits, tt)
fits_push w (y ∷ xs) x fits all = (all.0, fits_push w xs x fits all.1)

-- one slot more is read
pub slots_more : (w : Width) (count : ℕ) (x : Slot) (old mid new : List ℕ) (xs : List Slot) → ReadsSlot w mid new x → ReadsSlots w count old mid xs
    → ReadsSlots w (count + 1) old new (xs ++ x ∷ [])
slots_more w count x old mid new xs one read = record {
  size = length_push xs x ∙ ap (λ k. k + 1) read.size;
  fit = fits_push w xs x one.fits read.fit;
  spelled = read.spelled ∙ ap (λ (l : List ℕ). flat_map (slot_bytes w) xs ++ l) one.spelled
      ∙ sym (append_assoc (flat_map (slot_bytes w) xs) (slot_bytes w x) new)
      ∙ ap (λ (l : List ℕ). (flat_map (slot_bytes w) xs ++ l) ++ new) (sym (flat_map-cons (slot_bytes w) x [] ∙ append-nil (slot_bytes w x)))
      ∙ ap (λ (l : List ℕ). l ++ new) (sym (flat_map-append (slot_bytes w) xs (x ∷ [])));
}

-- fewer bytes than one's are left behind some: there aren't as many as are wanted
pub slots_short : (w : Width) (count i : ℕ) (old mid : List ℕ) (xs : List Slot) → ReadsSlots w i old mid xs → i < count
    → length mid < bytes_of w 1 + 4 → length old < slots_size w count
slots_short FourBytes count i old mid xs read lt few = omega (
  arith,
  few,
  lt,
  ap length read.spelled,
  length-append (flat_map (slot_bytes FourBytes) xs) mid,
  length-slots FourBytes xs ∙ ap (slots_size FourBytes) read.size,
)

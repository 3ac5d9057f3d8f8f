-- Slots: how long they are, and that an image has at most one active one.
use Rattle.std.proofs.Common.{◌≡◌, ℕ, ◌+◌, ◌-◌, ◌^◌, ◌%◌, ◌<◌, List, ◌∷◌, ◌++◌, length, take, drop, replicate, refl, sym, ap, ap₂, ◌∙◌, arith}
use Rattle.std.specs.Int.{w32, w64, to_le_bytes}
use Rattle.std.proofs.lemmas.List.{length-append, length-replicate, take_all}
use Rattle.crc32c_csum.specs.Prelude.{crc32c}
use Rattle.byte_maps.specs.Units.{zeros, unit_at}
use Rattle.meta_log.specs.declared.slot.Super.{Super}
use Rattle.meta_log.specs.Prelude.{super_front, super_fields, super_bytes, IsSuper, IsValidSlot, IsActiveSlot}
use Rattle.meta_rows.proofs.FieldLemmas.{number_front, wide32, wide64}

length-zeros : (n : ℕ) → length (zeros n) ≡ n
unfolding zeros
length-zeros n = length-replicate n 0

pub length-super_front : (s : Super) → length (super_front s) ≡ 40
length-super_front s = refl

pub length-super_fields : (s : Super) → length (super_fields s) ≡ 4092
length-super_fields s = length-append (super_front s) (zeros 4052) ∙ ap (λ n. 40 + n) (length-zeros 4052)

-- a slot is one unit
pub length-super_bytes : (s : Super) → length (super_bytes s) ≡ 4096
length-super_bytes s =
    length-append (super_fields s) (to_le_bytes w32 (crc32c (super_fields s)))
    ∙ ap (λ n. n + 4) (length-super_fields s)

-- and begins with the first byte of the magic
pub super_bytes-first : (s : Super) → super_bytes s ≡ 0x42 ∷ drop 1 (super_bytes s)
super_bytes-first s = refl

-- a front of 40 bytes, filled up to 4092
pub filled : (front : List ℕ) (count : ℕ) → count ≡ 40 → length front ≡ 40 → take 4092 front ++ replicate (4092 - count) 0 ≡ front ++ zeros 4052
unfolding zeros
filled front count is long = ap₂ (λ (a : List ℕ) (n : ℕ). a ++ replicate n 0) (take_all 4092 front (omega arith)) (ap (λ (n : ℕ). 4092 - n) is)

-- each field is below the limit of its width
pub record HasWidths (s : Super) : Type 0 where
  pub units : s.units < 2 ^ 32
  pub half : s.half < 2 ^ 32
  pub prefer : s.prefer < 2 ^ 32
  pub epoch : s.epoch < 2 ^ 64
  pub first : s.first < 2 ^ 64

pub widths : (s : Super) → IsSuper s → HasWidths s
widths s is = record {
  units = omega (arith, is.units_most);
  half = omega (arith, is.half_most);
  prefer = omega (arith, is.prefer_most);
  epoch = omega (arith, is.epoch_below);
  first = omega (arith, is.first_below);
}

abbrev fields : Super → List ℕ → List ℕ
fields s rest = to_le_bytes w32 s.units ++ (to_le_bytes w32 s.half ++ (to_le_bytes w32 s.prefer ++ (to_le_bytes w64 s.epoch ++ (to_le_bytes w64 s.first ++ rest))))

-- bytes have one front at most
pub same_front_of : (s t : Super) (x y : List ℕ) → HasWidths s → HasWidths t → super_front s ++ x ≡ super_front t ++ y → (s ≡ t) × (x ≡ y)
same_front_of s t x y p q e =
    let f : fields s x ≡ fields t y = ap (drop 12) e in
    let units = number_front w32 (2 ^ 32) wide32 s.units t.units _ _ p.units q.units f in
    let half = number_front w32 (2 ^ 32) wide32 s.half t.half _ _ p.half q.half units.1 in
    let prefer = number_front w32 (2 ^ 32) wide32 s.prefer t.prefer _ _ p.prefer q.prefer half.1 in
    let epoch = number_front w64 (2 ^ 64) wide64 s.epoch t.epoch _ _ p.epoch q.epoch prefer.1 in
    let first = number_front w64 (2 ^ 64) wide64 s.first t.first _ _ p.first q.first epoch.1 in (
      λ i. record { units = units.0 i; half = half.0 i; prefer = prefer.0 i; epoch = epoch.0 i; first = first.0 i },
      first.1,
    )

pub same_super : (s t : Super) → IsSuper s → IsSuper t → super_bytes s ≡ super_bytes t → s ≡ t
same_super s t p q e =
    (same_front_of s t (zeros 4052 ++ to_le_bytes w32 (crc32c (super_fields s))) (zeros 4052 ++ to_le_bytes w32 (crc32c (super_fields t))) (widths s p) (widths t q) e).0

pub same_slot : (image : List ℕ) (at : ℕ) (s t : Super) → IsValidSlot image at s → IsValidSlot image at t → s ≡ t
same_slot image at s t p q = same_super s t p.holds.limits q.holds.limits (sym p.holds.spelled ∙ q.holds.spelled)

pub same_active : (image : List ℕ) (s t : Super) → IsActiveSlot image s → IsActiveSlot image t → s ≡ t
same_active image s t p q =
    let le = p.greatest (t.epoch % 2) t (omega arith) q.here in
    let ge = q.greatest (s.epoch % 2) s (omega arith) p.here in
    let epochs : s.epoch ≡ t.epoch = omega (arith, le, ge) in
    same_super s t p.here.holds.limits q.here.holds.limits (sym p.here.holds.spelled ∙ ap (λ e. unit_at (e % 2) image) epochs ∙ q.here.holds.spelled)

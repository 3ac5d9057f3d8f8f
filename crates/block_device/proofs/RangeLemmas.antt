-- Byte lists that have the same units.
use Rattle.std.proofs.Common.{◌≡◌, ℕ, ◌+◌, ◌*◌, ◌/◌, ◌%◌, ◌<◌, ◌≤◌, List, length, take, drop, get_or, sym, ◌∙◌, ap, arith, length-drop}
use Rattle.std.proofs.lemmas.List.{get_or-take, get_or-drop, ext_get_or, length-take-le}
use Rattle.byte_maps.specs.Units.{unit_at, units_from, IsUnits}
use Rattle.block_device.specs.Prelude.{last, IsClean, IsCrashImage, History, SurelyHolds}
use Rattle.block_device.specs.declared.event.Event.{Event}

-- byte r of unit k
get_or-unit_at : (k r : ℕ) (bytes : List ℕ) → r < 4096 → get_or (unit_at k bytes) r 0 ≡ get_or bytes (4096 * k + r) 0
unfolding unit_at
get_or-unit_at k r bytes below = get_or-take 4096 (drop (4096 * k) bytes) r 0 below ∙ get_or-drop (4096 * k) bytes r 0

-- a range of one list that has the units of the other
pub units_from-same : (first count : ℕ) (image bytes : List ℕ) → IsUnits count bytes → 4096 * (first + count) ≤ length image → ((j : ℕ) → j < count → unit_at (first + j) image ≡ unit_at j bytes) → units_from first count image ≡ bytes
unfolding units_from
units_from-same first count image bytes size inside same =
    let whole : length (take (4096 * count) (drop (4096 * first) image)) ≡ 4096 * count = length-take-le (4096 * count) (drop (4096 * first) image) (omega (arith, length-drop (4096 * first) image)) in
    ext_get_or 0 (take (4096 * count) (drop (4096 * first) image)) bytes (whole ∙ sym size) (λ i below.
    let j = i / 4096 in
    let r = i % 4096 in
    let parts : 4096 * j + r ≡ i = omega arith in
    let small : r < 4096 = omega arith in
    let within : j < count = omega (arith, whole) in
    get_or-take (4096 * count) (drop (4096 * first) image) i 0 (omega (arith, whole))
    ∙ get_or-drop (4096 * first) image i 0
    ∙ ap (λ (n : ℕ). get_or image n 0) (omega arith)
    ∙ sym (get_or-unit_at (first + j) r image small)
    ∙ ap (λ (l : List ℕ). get_or l r 0) (same j within)
    ∙ get_or-unit_at j r bytes small
    ∙ ap (λ (n : ℕ). get_or bytes n 0) parts)

-- bytes that units surely hold, one behind the other, are in each image
pub range_image : (h : History) (first count : ℕ) (bytes image : List ℕ) → IsUnits count bytes → 4096 * (first + count) ≤ length h.start
    → ((j : ℕ) → j < count → SurelyHolds h (first + j) (λ unit. unit ≡ unit_at j bytes)) → IsCrashImage h.start h.log image → units_from first count image ≡ bytes
range_image h first count bytes image size inside surely is =
    units_from-same first count image bytes size (omega (arith, is.size)) (λ j below. is.clean (first + j) (surely j below).clean ∙ (surely j below).last)

-- where no unit is dirty there is one image
pub clean_image : (start : List ℕ) (log : List Event) (image : List ℕ) (units : ℕ) → IsUnits units (last start log) → length (last start log) ≡ length start
    → ((k : ℕ) → IsClean log k) → IsCrashImage start log image → image ≡ last start log
clean_image start log image units whole size clean is =
    let now = last start log in
    ext_get_or 0 image now (is.size ∙ sym size) (λ i below.
    let k = i / 4096 in
    let r = i % 4096 in
    let parts : i ≡ 4096 * k + r = omega arith in
    let small : r < 4096 = omega arith in
    ap (λ (n : ℕ). get_or image n 0) parts ∙ sym (get_or-unit_at k r image small) ∙ ap (λ (l : List ℕ). get_or l r 0) (is.clean k (clean k)) ∙ get_or-unit_at k r now small ∙ ap (λ (n : ℕ). get_or now n 0) (sym parts))

-- Pages laid together and cut are a range of the bytes.
use Rattle.std.proofs.Common.{◌≡◌, ℕ, ◌+◌, ◌-◌, ◌*◌, ◌/◌, ◌%◌, ◌<◌, ◌≤◌, Bool, true, false, cond, nat_lt, List, ◌++◌, length, get_or, take, drop, refl, sym, ap, subst, ◌∙◌, arith}
use Rattle.std.specs.Prelude.{min}
use Rattle.std.proofs.lemmas.Bool.{ltb-true, ltb-false}
use Rattle.std.proofs.lemmas.List.{get_or-take, get_or-drop, get_or_append_left, length-take, length-drop, ext_get_or}
use Rattle.byte_maps.specs.Units.{unit_at, zeros, IsUnits}
use Rattle.store_image.specs.Prelude.{pages_of, page_bytes}
use Rattle.read_facts.specs.Prelude.{read_end, pages_read}

-- the pages that are read reach from the page of the first byte to the end, if there is anything to read
pages_enough : (off end : ℕ) → off < end → end - off ≤ 4096 * (pages_of end - off / 4096) - off % 4096
pages_enough off end lt = omega arith

-- how many bytes the cut has, by the number of pages
cut_size : (size off len : ℕ) (b : Bool) → nat_lt off (read_end size off len) ≡ b
    → min (read_end size off len - off) (4096 * cond b (pages_of (read_end size off len) - off / 4096) 0 - off % 4096) ≡ min len (size - off)
cut_size size off len true is =
    some (read_end size off len) _ (pages_enough off (read_end size off len) (ltb-true off (read_end size off len) is)) refl
  where
    some : (end most : ℕ) → end - off ≤ most → end ≡ min size (off + len) → min (end - off) most ≡ min len (size - off)
    some end most le e = omega arith
cut_size size off len false is = none (read_end size off len) (ltb-false off (read_end size off len) is) refl
  where
    none : (end : ℕ) → end ≤ off → end ≡ min size (off + len) → min (end - off) (4096 * 0 - off % 4096) ≡ min len (size - off)
    none end le e = omega arith

-- the bytes that are read are as many as those of the range
pub cut_length : (size off len : ℕ) (pages bytes : List ℕ) → IsUnits (pages_read size off len) pages → length bytes ≡ size
    → length (take (read_end size off len - off) (drop (off % 4096) pages)) ≡ length (take len (drop off bytes))
cut_length size off len pages bytes whole is =
    length-take (read_end size off len - off) (drop (off % 4096) pages)
    ∙ ap (min (read_end size off len - off)) (length-drop (off % 4096) pages ∙ ap (λ (n : ℕ). n - off % 4096) whole)
    ∙ cut_size size off len (nat_lt off (read_end size off len)) refl
    ∙ ap (λ (n : ℕ). min len (n - off)) (sym is)
    ∙ ap (min len) (sym (length-drop off bytes))
    ∙ sym (length-take len (drop off bytes))

-- a byte of a page
page_byte : (x : List ℕ) (page r : ℕ) → r < 4096 → 4096 * page + r < length x → get_or (page_bytes x page) r 0 ≡ get_or x (4096 * page + r) 0
page_byte x page r lt within =
    get_or-take 4096 (drop (4096 * page) x ++ zeros 4096) r 0 lt
    ∙ get_or_append_left (drop (4096 * page) x) (zeros 4096) 0 r (omega (arith, within, length-drop (4096 * page) x))
    ∙ get_or-drop (4096 * page) x r 0

-- a byte of a unit
unit_byte : (k : ℕ) (xs : List ℕ) (r : ℕ) → r < 4096 → get_or (unit_at k xs) r 0 ≡ get_or xs (4096 * k + r) 0
unfolding unit_at
unit_byte k xs r lt = get_or-take 4096 (drop (4096 * k) xs) r 0 lt ∙ get_or-drop (4096 * k) xs r 0

module _ (bytes pages : List ℕ) (off count : ℕ) (whole : IsUnits count pages)
    (alike : (i : ℕ) → i < count → unit_at i pages ≡ page_bytes bytes (off / 4096 + i)) where
  -- a byte of the pages by its place among the bytes
  byte_at : (at : ℕ) → at < length pages → 4096 * (off / 4096) + at < length bytes → get_or pages at 0 ≡ get_or bytes (4096 * (off / 4096) + at) 0
  byte_at at inside within =
      let k : ℕ = at / 4096 in
      let r : ℕ = at % 4096 in
      let is : 4096 * k + r ≡ at = omega arith in
      let small : r < 4096 = omega arith in
      let below : k < count = omega (arith, inside, whole, is) in
      let place : 4096 * (off / 4096 + k) + r ≡ 4096 * (off / 4096) + at = omega (arith, is) in
      ap (λ (n : ℕ). get_or pages n 0) (sym is)
      ∙ sym (unit_byte k pages r small)
      ∙ ap (λ (l : List ℕ). get_or l r 0) (alike k below)
      ∙ page_byte bytes (off / 4096 + k) r small (subst (λ (n : ℕ). n < length bytes) (sym place) within)
      ∙ ap (λ (n : ℕ). get_or bytes n 0) place

  -- a byte of the range
  byte_in_cut : (n len i : ℕ) → i < length (take n (drop (off % 4096) pages)) → i < length (take len (drop off bytes))
      → get_or (take n (drop (off % 4096) pages)) i 0 ≡ get_or (take len (drop off bytes)) i 0
  byte_in_cut n len i a b =
      let in_cut : i < min n (length (drop (off % 4096) pages)) = subst (λ (m : ℕ). i < m) (length-take n (drop (off % 4096) pages)) a in
      let in_range : i < min len (length (drop off bytes)) = subst (λ (m : ℕ). i < m) (length-take len (drop off bytes)) b in
      let inside : off % 4096 + i < length pages = omega (arith, in_cut, length-drop (off % 4096) pages) in
      let within : off + i < length bytes = omega (arith, in_range, length-drop off bytes) in
      let place : 4096 * (off / 4096) + (off % 4096 + i) ≡ off + i = omega arith in
      get_or-take n (drop (off % 4096) pages) i 0 (omega (arith, in_cut))
      ∙ get_or-drop (off % 4096) pages i 0
      ∙ byte_at (off % 4096 + i) inside (subst (λ (m : ℕ). m < length bytes) (sym place) within)
      ∙ ap (λ (m : ℕ). get_or bytes m 0) place
      ∙ sym (get_or-drop off bytes i 0)
      ∙ sym (get_or-take len (drop off bytes) i 0 (omega (arith, in_range)))

-- the pages of the bytes, laid together and cut, are the range
pub cut_is : (bytes pages : List ℕ) (off len : ℕ) → IsUnits (pages_read (length bytes) off len) pages
    → ((i : ℕ) → i < pages_read (length bytes) off len → unit_at i pages ≡ page_bytes bytes (off / 4096 + i))
    → take (read_end (length bytes) off len - off) (drop (off % 4096) pages) ≡ take len (drop off bytes)
cut_is bytes pages off len whole alike =
    let size : length (take (read_end (length bytes) off len - off) (drop (off % 4096) pages)) ≡ length (take len (drop off bytes)) =
    cut_length (length bytes) off len pages bytes whole refl in
    ext_get_or 0 (take (read_end (length bytes) off len - off) (drop (off % 4096) pages)) (take len (drop off bytes)) size (λ i lt.
    byte_in_cut bytes pages off (pages_read (length bytes) off len) whole alike (read_end (length bytes) off len - off) len i lt
    (subst (λ (m : ℕ). i < m) size lt))

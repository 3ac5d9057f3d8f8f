-- Extents that are spelled are read again.
use Rattle.std.proofs.Common.{◌≡◌, ℕ, zero, suc, ◌+◌, ◌*◌, ◌<◌, ◌≤◌, ◌^◌, Bool, true, false, cond, List, [], ◌∷◌, ◌++◌, length, length-append, drop, refl, sym, ap, ◌∙◌, append_assoc, arith}
use Rattle.std.specs.Prelude.{nat_lt, slice_index}
use Rattle.std.specs.List.{flat_map, AllByRecursion}
use Rattle.std.specs.Int.{w32, to_le_bytes}
use Rattle.std.proofs.lemmas.Bool.{ltb-true, ltb-false}
use Rattle.std.proofs.lemmas.List.{drop_at, drop-drop, length-drop}
use Rattle.std.proofs.lemmas.List.Concat.{flat_map-cons}
use Rattle.std.proofs.lemmas.Nat.{from_le_bytes-to_le_bytes_2, from_le_bytes-to_le_bytes_4, from_le_bytes-to_le_bytes_8}
use Rattle.unit_fields.specs.declared.width.Width.{Width}
use Rattle.unit_fields.specs.declared.width.Width.TheVariants.{FourBytes}
use Rattle.unit_fields.specs.Prelude.{bytes_of}
use Rattle.row_format.specs.Prelude.{Body, private, shared, Extent, extent_bytes, FitsBody, FitsExtent, first_in, count_in, is_shared_in, unit_in, sbid_in, slot_number_in, csums_in, size_in, body_in, extent_in, extents_by, extents_read, csum_bytes, csum_in, FitsCsum}

-- ---- one extent after the other

-- an extent's head has some bytes
pub some_size : (w : Width) (bytes : List ℕ) → 11 ≤ size_in w bytes
some_size w bytes = by (is_shared_in bytes)
  where
    by : (b : Bool) → 11 ≤ cond b 17 (11 + bytes_of w (count_in bytes))
    by true = omega arith
    by false = omega arith

-- where no extent is whole there is none
by_none : (w : Width) (n : ℕ) (bytes : List ℕ) → length bytes < size_in w bytes → extents_by w n bytes ≡ []
by_none w zero bytes few = refl
by_none w (suc n) bytes few = by (nat_lt (length bytes) (size_in w bytes)) refl
  where
    by : (b : Bool) → nat_lt (length bytes) (size_in w bytes) ≡ b → cond b [] (extent_in w bytes ∷ extents_by w n (drop (size_in w bytes) bytes)) ≡ []
    by true is = refl
    by false is = absurd (omega (arith, few, ltb-false (length bytes) (size_in w bytes) is))

-- a whole one is read, and then those behind it
by_more : (w : Width) (n : ℕ) (bytes : List ℕ) → size_in w bytes ≤ length bytes
    → extents_by w (suc n) bytes ≡ extent_in w bytes ∷ extents_by w n (drop (size_in w bytes) bytes)
by_more w n bytes whole = by (nat_lt (length bytes) (size_in w bytes)) refl
  where
    by : (b : Bool) → nat_lt (length bytes) (size_in w bytes) ≡ b
        → cond b [] (extent_in w bytes ∷ extents_by w n (drop (size_in w bytes) bytes)) ≡ extent_in w bytes ∷ extents_by w n
        (drop (size_in w bytes) bytes)
    by true is = absurd (omega (arith, whole, ltb-true (length bytes) (size_in w bytes) is))
    by false is = refl

-- as many steps as there are bytes are enough
by_enough : (w : Width) (n m : ℕ) (bytes : List ℕ) → length bytes ≤ n → length bytes ≤ m → extents_by w n bytes ≡ extents_by w m bytes
by_enough w zero m bytes a b = sym (by_none w m bytes (omega (arith, a, some_size w bytes)))
by_enough w (suc n) zero bytes a b = by_none w (suc n) bytes (omega (arith, b, some_size w bytes))
by_enough w (suc n) (suc m) bytes a b = by (by_enough w n m) (nat_lt (length bytes) (size_in w bytes)) refl
  where
    by : ((left : List ℕ) → length left ≤ n → length left ≤ m → extents_by w n left ≡ extents_by w m left)
        → (t : Bool) → nat_lt (length bytes) (size_in w bytes) ≡ t → extents_by w (suc n) bytes ≡ extents_by w (suc m) bytes
    by same true is =
        let few = ltb-true (length bytes) (size_in w bytes) is in
        by_none w (suc n) bytes few ∙ sym (by_none w (suc m) bytes few)
    by same false is =
        let whole : size_in w bytes ≤ length bytes = ltb-false (length bytes) (size_in w bytes) is in
        let left : length (drop (size_in w bytes) bytes) + 1 ≤ length bytes = omega (arith, whole, some_size w bytes, length-drop (size_in w bytes) bytes) in
        by_more w n bytes whole
        ∙ ap (λ (l : List Extent). extent_in w bytes ∷ l) (same (drop (size_in w bytes) bytes) (omega (arith, left, a)) (omega (arith, left, b)))
        ∙ sym (by_more w m bytes whole)

pub read_none : (w : Width) (bytes : List ℕ) → length bytes < size_in w bytes → extents_read w bytes ≡ []
unfolding extents_read
read_none w bytes few = by_none w (length bytes) bytes few

pub read_more : (w : Width) (bytes : List ℕ) → size_in w bytes ≤ length bytes
    → extents_read w bytes ≡ extent_in w bytes ∷ extents_read w (drop (size_in w bytes) bytes)
unfolding extents_read
read_more w bytes whole =
    let left : length (drop (size_in w bytes) bytes) + 1 ≤ length bytes = omega (arith, whole, some_size w bytes, length-drop (size_in w bytes) bytes) in
    by_enough w (length bytes) (suc (length bytes)) bytes (omega arith) (omega arith)
    ∙ by_more w (length bytes) bytes whole
    ∙ ap (λ (l : List Extent). extent_in w bytes ∷ l)
    (by_enough w (length bytes) (length (drop (size_in w bytes) bytes)) (drop (size_in w bytes) bytes) (omega (arith, left)) (omega arith))

-- ---- checksums

-- a checksum of so many
pub csum_of : (w : Width) (n i : ℕ) (bytes : List ℕ) → i < n → slice_index (csums_in w n bytes) i ≡ csum_in w (drop (bytes_of w i) bytes)
csum_of w zero i bytes lt = absurd (omega (arith, lt))
csum_of FourBytes (suc n) zero bytes lt = let none : 0 ≡ 4 * 0 = omega arith in ap (λ (k : ℕ). csum_in FourBytes (drop k bytes)) none
csum_of FourBytes (suc n) (suc i) bytes lt =
    let four : 4 + 4 * i ≡ 4 * suc i = omega arith in
    csum_of FourBytes n i (drop 4 bytes) (omega (arith, lt))
    ∙ ap (csum_in FourBytes) (drop-drop (4 * i) 4 bytes ∙ ap (λ (k : ℕ). drop k bytes) four)

pub length-csums_in : (w : Width) (n : ℕ) (bytes : List ℕ) → length (csums_in w n bytes) ≡ n
length-csums_in w zero bytes = refl
length-csums_in w (suc n) bytes = ap suc (length-csums_in w n (drop (bytes_of w 1) bytes))

-- the bytes of fewer are fewer by one's at least
pub bytes_less : (w : Width) (m n : ℕ) → m < n → bytes_of w m + bytes_of w 1 ≤ bytes_of w n
bytes_less FourBytes m n lt = omega (arith, lt)

pub length-csums : (w : Width) (ns : List ℕ) → length (flat_map (csum_bytes w) ns) ≡ bytes_of w (length ns)
length-csums FourBytes [] = refl
length-csums FourBytes (n ∷ ns) =
    ap length (flat_map-cons (to_le_bytes w32) n ns)
    ∙ length-append (to_le_bytes w32 n) (flat_map (to_le_bytes w32) ns)
    ∙ omega (arith, length-csums FourBytes ns)

-- checksums that were written are read again
csums_again : (w : Width) (ns rest : List ℕ) → AllByRecursion (FitsCsum w) ns → csums_in w (length ns) (flat_map (csum_bytes w) ns ++ rest) ≡ ns
unfolding csum_in
csums_again w [] rest fit = refl
csums_again FourBytes (n ∷ ns) rest fit =
    let front : flat_map (to_le_bytes w32) (n ∷ ns) ++ rest ≡ to_le_bytes w32 n ++ (flat_map (to_le_bytes w32) ns ++ rest) =
    ap (λ (l : List ℕ). l ++ rest) (flat_map-cons (to_le_bytes w32) n ns) ∙ append_assoc (to_le_bytes w32 n) (flat_map (to_le_bytes w32) ns) rest in
    ap (csums_in FourBytes (suc (length ns))) front
    ∙ (λ i. from_le_bytes-to_le_bytes_4 n fit.0 i ∷ csums_again FourBytes ns rest fit.1 i)

-- ---- spelled extents

module _ (w : Width) (first unit : ℕ) (cs rest : List ℕ) (first_fits : first < 2 ^ 32) (fits : FitsBody w (private unit cs)) where
  abbrev spelled : List ℕ
  spelled = extent_bytes w (record { first = first; body = private unit cs }) ++ rest

  first_again : first_in spelled ≡ first
  unfolding first_in
  first_again = from_le_bytes-to_le_bytes_4 first first_fits

  count_again : count_in spelled ≡ length cs
  unfolding count_in
  count_again = from_le_bytes-to_le_bytes_2 (length cs) (omega (arith, fits.2))

  unit_again : unit_in spelled ≡ unit
  unfolding unit_in
  unit_again = from_le_bytes-to_le_bytes_4 unit fits.0

  kind_again : is_shared_in spelled ≡ false
  unfolding is_shared_in
  kind_again = refl

  behind_head : drop 11 spelled ≡ flat_map (csum_bytes w) cs ++ rest
  behind_head = refl

  long : length spelled ≡ 11 + length (flat_map (csum_bytes w) cs ++ rest)
  long = omega arith

  size_again : size_in w spelled ≡ 11 + length (flat_map (csum_bytes w) cs)
  size_again = ap (λ (b : Bool). cond b 17 (11 + bytes_of w (count_in spelled))) kind_again ∙ ap (λ (n : ℕ). 11 + bytes_of w n) count_again ∙ ap (λ (n : ℕ). 11 + n) (sym (length-csums w cs))

  body_again : body_in w spelled ≡ private unit cs
  body_again =
      ap (λ (b : Bool). cond b (shared (sbid_in spelled) (slot_number_in spelled) (count_in spelled))
      (private (unit_in spelled) (csums_in w (count_in spelled) (drop 11 spelled)))) kind_again
      ∙ (λ i. private (unit_again i) ((ap (λ (n : ℕ). csums_in w n (drop 11 spelled)) count_again ∙ csums_again w cs rest fits.3) i))

  -- it is read as it is
  extent_again : extent_in w spelled ≡ record { first = first; body = private unit cs }
  extent_again = λ i. record { first = first_again i; body = body_again i }

  left_again : drop (size_in w spelled) spelled ≡ rest
  left_again =
      let size : size_in w spelled ≡ bytes_of w (length cs) + 11 = omega (arith, size_again, length-csums w cs) in
      ap (λ (n : ℕ). drop n spelled) size ∙ sym (ap (λ (n : ℕ). drop n spelled) (omega arith))
      ∙ sym (drop-drop (bytes_of w (length cs)) 11 spelled)
      ∙ drop_at (flat_map (csum_bytes w) cs) rest (bytes_of w (length cs)) (length-csums w cs)

  whole_again : size_in w spelled ≤ length spelled
  whole_again = omega (arith, size_again, long, length-append (flat_map (csum_bytes w) cs) rest)

  read_again : extents_read w spelled ≡ record { first = first; body = private unit cs } ∷ extents_read w rest
  read_again = read_more w spelled whole_again ∙ (λ i. extent_again i ∷ extents_read w (left_again i))

module _ (w : Width) (first sbid index count : ℕ) (rest : List ℕ) (first_fits : first < 2 ^ 32) (fits : FitsBody w (shared sbid index count)) where
  abbrev shared_spelled : List ℕ
  shared_spelled = extent_bytes w (record { first = first; body = shared sbid index count }) ++ rest

  shared_kind : is_shared_in shared_spelled ≡ true
  unfolding is_shared_in
  shared_kind = refl

  shared_first : first_in shared_spelled ≡ first
  unfolding first_in
  shared_first = from_le_bytes-to_le_bytes_4 first first_fits

  shared_count : count_in shared_spelled ≡ count
  unfolding count_in
  shared_count = from_le_bytes-to_le_bytes_2 count (omega (arith, fits.3))

  shared_sbid : sbid_in shared_spelled ≡ sbid
  unfolding sbid_in
  shared_sbid = from_le_bytes-to_le_bytes_8 sbid fits.0

  shared_slot : slot_number_in shared_spelled ≡ index
  unfolding slot_number_in
  shared_slot = from_le_bytes-to_le_bytes_2 index fits.1

  shared_size : size_in w shared_spelled ≡ 17
  shared_size = ap (λ (b : Bool). cond b 17 (11 + bytes_of w (count_in shared_spelled))) shared_kind

  shared_body : body_in w shared_spelled ≡ shared sbid index count
  shared_body =
      ap (λ (b : Bool). cond b (shared (sbid_in shared_spelled) (slot_number_in shared_spelled) (count_in shared_spelled))
      (private (unit_in shared_spelled) (csums_in w (count_in shared_spelled) (drop 11 shared_spelled)))) shared_kind
      ∙ (λ i. shared (shared_sbid i) (shared_slot i) (shared_count i))

  shared_long : length shared_spelled ≡ 17 + length rest
  shared_long = omega arith

  shared_again : extents_read w shared_spelled ≡ record { first = first; body = shared sbid index count } ∷ extents_read w rest
  shared_again =
      read_more w shared_spelled (omega (arith, shared_size, shared_long))
      ∙ (λ i. record { first = shared_first i; body = shared_body i } ∷ extents_read w (drop (shared_size i) shared_spelled))

-- an extent that was written is read again, and then what stands behind it
read_front : (w : Width) (e : Extent) (rest : List ℕ) → FitsExtent w e → extents_read w (extent_bytes w e ++ rest) ≡ e ∷ extents_read w rest
read_front w e rest fits = by e.first e.body fits.first fits.body
  where
    by : (first : ℕ) (b : Body) → first < 2 ^ 32 → FitsBody w b
        → extents_read w (extent_bytes w (record { first = first; body = b }) ++ rest) ≡ record { first = first; body = b } ∷ extents_read w rest
    by first (private unit cs) first_fits fit = read_again w first unit cs rest first_fits fit
    by first (shared sbid index count) first_fits fit = shared_again w first sbid index count rest first_fits fit

read_nothing : (w : Width) → extents_read w [] ≡ []
unfolding extents_read
read_nothing w = refl

-- all of them
pub read_all : (w : Width) (es : List Extent) → AllByRecursion (FitsExtent w) es → extents_read w (flat_map (extent_bytes w) es) ≡ es
read_all w [] fit = read_nothing w
read_all w (e ∷ es) fit =
    ap (extents_read w) (flat_map-cons (extent_bytes w) e es) ∙ read_front w e (flat_map (extent_bytes w) es) fit.0
    ∙ ap (λ (l : List Extent). e ∷ l) (read_all w es fit.1)

-- no other extents have the same spelling
pub extents-same : (w : Width) (a b : List Extent) → AllByRecursion (FitsExtent w) a → AllByRecursion (FitsExtent w) b
    → flat_map (extent_bytes w) a ≡ flat_map (extent_bytes w) b → a ≡ b
extents-same w a b fa fb e = sym (read_all w a fa) ∙ ap (extents_read w) e ∙ read_all w b fb

first_of : Extent → List Extent → Extent
first_of d [] = d
first_of d (e ∷ es) = e

same_first : (a b : Extent) (x y : List Extent) → a ∷ x ≡ b ∷ y → a ≡ b
unfolding first_of
same_first a b x y e = ap (first_of a) e

-- no spelling of an extent begins another
pub extent_front : (w : Width) (a b : Extent) (x y : List ℕ) → FitsExtent w a → FitsExtent w b
    → extent_bytes w a ++ x ≡ extent_bytes w b ++ y → (a ≡ b) × (x ≡ y)
extent_front w a b x y fa fb e =
    let n : ℕ = length (extent_bytes w a) in
    let same : a ≡ b = same_first a b _ _ (sym (read_front w a x fa) ∙ ap (extents_read w) e ∙ read_front w b y fb) in
    let behind : x ≡ y =
    sym (drop_at (extent_bytes w a) x n refl) ∙ ap (drop n) e ∙ ap (λ (k : Extent). drop n (extent_bytes w k ++ y)) (sym same)
    ∙ drop_at (extent_bytes w a) y n refl in
    (same, behind)

-- Units of byte lists that are made of others.
use Rattle.std.proofs.Common.{◌≡◌, ℕ, zero, suc, ◌+◌, ◌-◌, ◌*◌, ◌<◌, ◌≤◌, List, [], ◌++◌, length, take, drop, sym, ◌∙◌, ap, arith, length-append, length-drop, refl}
use Rattle.std.proofs.lemmas.List.{length-take-le, length-replicate, take_all, take-take, drop-take, drop-drop, take_at, take-append-le, take-append-drop, take-replicate, drop_at, drop-append-le, drop_all, drop-replicate, append-nil, replicate-append-replicate, append_assoc}
use Rattle.std.proofs.Math.Seq.{take-append-add}
use Rattle.byte_maps.specs.Units.{unit_at, units_from, overlaid, IsUnits, zeros, units_for, in_units}

pub length-overlaid : (at : ℕ) (bytes old : List ℕ) → 4096 * at + length bytes ≤ length old → length (overlaid at bytes old) ≡ length old
unfolding overlaid
length-overlaid at bytes old fits = omega (arith, length-append (take (4096 * at) old ++ bytes) (drop (4096 * at + length bytes) old), length-append (take (4096 * at) old) bytes, length-take-le (4096 * at) old (omega arith), length-drop (4096 * at + length bytes) old)

-- a piece of a front is that piece of the whole
pub piece_of_front : (a b n : ℕ) (xs : List ℕ) → a + b ≤ n → take b (drop a (take n xs)) ≡ take b (drop a xs)
piece_of_front a b n xs fits =
    let is : n ≡ a + (n - a) = omega arith in
    ap (λ (m : ℕ). take b (drop a (take m xs))) is
    ∙ ap (λ (l : List ℕ). take b l) (drop-take a (n - a) xs)
    ∙ take-take b (n - a) (drop a xs) (omega arith)

-- unit k of the part from unit `at` on
pub unit_at-part : (at count k : ℕ) (xs : List ℕ) → k < count → unit_at k (take (4096 * count) (drop (4096 * at) xs)) ≡ unit_at (at + k) xs
unfolding unit_at
unit_at-part at count k xs below =
    piece_of_front (4096 * k) 4096 (4096 * count) (drop (4096 * at) xs) (omega arith)
    ∙ ap (λ (l : List ℕ). take 4096 l) (drop-drop (4096 * k) (4096 * at) xs)
    ∙ ap (λ (m : ℕ). take 4096 (drop m xs)) (omega arith)

-- a unit before the bytes that were laid
pub unit_at-laid_before : (at k : ℕ) (bytes old : List ℕ) → 4096 * at + length bytes ≤ length old → k < at → unit_at k (overlaid at bytes old) ≡ unit_at k old
unfolding unit_at overlaid
unit_at-laid_before at k bytes old fits before =
    let front = take (4096 * at) old in
    let rest = drop (4096 * at + length bytes) old in
    let size : length front ≡ 4096 * at = length-take-le (4096 * at) old (omega arith) in
    ap (λ (l : List ℕ). take 4096 (drop (4096 * k) l)) (append_assoc front bytes rest)
    ∙ ap (λ (l : List ℕ). take 4096 l) (drop-append-le (4096 * k) front (bytes ++ rest) (omega arith))
    ∙ take-append-le 4096 (drop (4096 * k) front) (bytes ++ rest) (omega (arith, length-drop (4096 * k) front))
    ∙ piece_of_front (4096 * k) 4096 (4096 * at) old (omega arith)

-- a unit of the bytes that were laid
pub unit_at-laid_inside : (at k j : ℕ) (bytes old : List ℕ) → 4096 * at + length bytes ≤ length old → k ≡ at + j → 4096 * j + 4096 ≤ length bytes → unit_at k (overlaid at bytes old) ≡ unit_at j bytes
unfolding unit_at overlaid
unit_at-laid_inside at k j bytes old fits is inside =
    let front = take (4096 * at) old in
    let rest = drop (4096 * at + length bytes) old in
    let size : length front ≡ 4096 * at = length-take-le (4096 * at) old (omega arith) in
    ap (λ (l : List ℕ). take 4096 (drop (4096 * k) l)) (append_assoc front bytes rest)
    ∙ ap (λ (m : ℕ). take 4096 (drop m (front ++ (bytes ++ rest)))) (omega arith)
    ∙ ap (λ (l : List ℕ). take 4096 l) (sym (drop-drop (4096 * j) (4096 * at) (front ++ (bytes ++ rest))))
    ∙ ap (λ (l : List ℕ). take 4096 (drop (4096 * j) l)) (drop_at front (bytes ++ rest) (4096 * at) size)
    ∙ ap (λ (l : List ℕ). take 4096 l) (drop-append-le (4096 * j) bytes rest (omega arith))
    ∙ take-append-le 4096 (drop (4096 * j) bytes) rest (omega (arith, length-drop (4096 * j) bytes))

-- a unit behind the bytes that were laid
pub unit_at-laid_behind : (at k : ℕ) (bytes old : List ℕ) → 4096 * at + length bytes ≤ length old → 4096 * at + length bytes ≤ 4096 * k → unit_at k (overlaid at bytes old) ≡ unit_at k old
unfolding unit_at overlaid
unit_at-laid_behind at k bytes old fits behind =
    let front = take (4096 * at) old in
    let end = 4096 * at + length bytes in
    let size : length (front ++ bytes) ≡ end = omega (arith, length-append front bytes, length-take-le (4096 * at) old (omega arith)) in
    ap (λ (m : ℕ). take 4096 (drop m ((front ++ bytes) ++ drop end old))) (omega arith)
    ∙ ap (λ (l : List ℕ). take 4096 l) (sym (drop-drop (4096 * k - end) end ((front ++ bytes) ++ drop end old)))
    ∙ ap (λ (l : List ℕ). take 4096 (drop (4096 * k - end) l)) (drop_at (front ++ bytes) (drop end old) end size)
    ∙ ap (λ (l : List ℕ). take 4096 l) (drop-drop (4096 * k - end) end old)
    ∙ ap (λ (m : ℕ). take 4096 (drop m old)) (omega arith)

-- the one unit of 4096 bytes
pub unit_at-whole : (bytes : List ℕ) → length bytes ≡ 4096 → unit_at 0 bytes ≡ bytes
unfolding unit_at
unit_at-whole bytes size = take_all 4096 bytes (omega arith)

-- ---- pieces

take_behind : (xs ys : List ℕ) (m n : ℕ) → length xs ≡ m → xs ++ take n ys ≡ take (m + n) (xs ++ ys)
take_behind xs ys m n size = sym (ap (λ (k : ℕ). take (k + n) (xs ++ ys)) (sym size) ∙ take-append-add xs ys n)

no_bytes : (xs : List ℕ) → length xs ≡ 0 → xs ≡ []
no_bytes xs none = sym (drop_zero xs) ∙ drop_all 0 xs (omega arith)
  where
    drop_zero : (ys : List ℕ) → drop 0 ys ≡ ys
    drop_zero ys = refl

-- ---- lengths

pub length-unit_at : (k : ℕ) (xs : List ℕ) → 4096 * k + 4096 ≤ length xs → length (unit_at k xs) ≡ 4096
unfolding unit_at
length-unit_at k xs inside = length-take-le 4096 (drop (4096 * k) xs) (omega (arith, length-drop (4096 * k) xs))

pub length-units_from : (first count : ℕ) (xs : List ℕ) → 4096 * first + 4096 * count ≤ length xs → length (units_from first count xs) ≡ 4096 * count
unfolding units_from
length-units_from first count xs inside = length-take-le (4096 * count) (drop (4096 * first) xs) (omega (arith, length-drop (4096 * first) xs))

pub length-zeros : (n : ℕ) → length (zeros n) ≡ n
unfolding zeros
length-zeros n = length-replicate n 0

-- ---- zeros

pub zeros-append : (m n : ℕ) → zeros m ++ zeros n ≡ zeros (m + n)
unfolding zeros
zeros-append m n = replicate-append-replicate m n 0

pub take-zeros : (m n : ℕ) → m ≤ n → take m (zeros n) ≡ zeros m
unfolding zeros
take-zeros m n below = take-replicate m n 0 below

pub drop-zeros : (m n : ℕ) → drop m (zeros n) ≡ zeros (n - m)
unfolding zeros
drop-zeros m n = drop-replicate m n 0

pub unit_at-zeros : (k n : ℕ) → 4096 * k + 4096 ≤ n → unit_at k (zeros n) ≡ zeros 4096
unfolding unit_at
unit_at-zeros k n inside = ap (λ (l : List ℕ). take 4096 l) (drop-zeros (4096 * k) n) ∙ take-zeros 4096 (n - 4096 * k) (omega arith)

-- ---- units from one on

-- unit k of the units from `first` on
pub unit_at-units_from : (first count k : ℕ) (xs : List ℕ) → k < count → unit_at k (units_from first count xs) ≡ unit_at (first + k) xs
unfolding units_from
unit_at-units_from first count k xs below = unit_at-part first count k xs below

pub units_from-one : (k : ℕ) (xs : List ℕ) → units_from k 1 xs ≡ unit_at k xs
unfolding unit_at units_from
units_from-one k xs = refl

pub units_from-all : (count : ℕ) (xs : List ℕ) → IsUnits count xs → units_from 0 count xs ≡ xs
unfolding units_from
units_from-all count xs whole = take_all (4096 * count) xs (omega (arith, whole))

-- units of units
pub units_from-units_from : (first count at n : ℕ) (xs : List ℕ) → at + n ≤ count → units_from at n (units_from first count xs) ≡ units_from (first + at) n xs
unfolding units_from
units_from-units_from first count at n xs inside =
    piece_of_front (4096 * at) (4096 * n) (4096 * count) (drop (4096 * first) xs) (omega arith)
    ∙ ap (λ (l : List ℕ). take (4096 * n) l) (drop-drop (4096 * at) (4096 * first) xs)
    ∙ ap (λ (m : ℕ). take (4096 * n) (drop m xs)) (omega arith)

-- two runs of units, one behind the other
pub units_from-join : (first m n : ℕ) (xs : List ℕ) → 4096 * first + 4096 * m ≤ length xs → units_from first m xs ++ units_from (first + m) n xs ≡ units_from first (m + n) xs
unfolding units_from
units_from-join first m n xs inside =
    let rest = drop (4096 * first) xs in
    let front = take (4096 * m) rest in
    let size : length front ≡ 4096 * m = length-take-le (4096 * m) rest (omega (arith, length-drop (4096 * first) xs)) in
    ap (λ (k : ℕ). front ++ take (4096 * n) (drop k xs)) (omega arith)
    ∙ ap (λ (l : List ℕ). front ++ take (4096 * n) l) (sym (drop-drop (4096 * m) (4096 * first) xs))
    ∙ take_behind front (drop (4096 * m) rest) (4096 * m) (4096 * n) size
    ∙ ap (λ (l : List ℕ). take (4096 * m + 4096 * n) l) (take-append-drop (4096 * m) rest)
    ∙ ap (λ (k : ℕ). take k rest) (omega arith)

-- ---- units of lists one behind the other

pub unit_at-append_front : (k : ℕ) (xs ys : List ℕ) → 4096 * k + 4096 ≤ length xs → unit_at k (xs ++ ys) ≡ unit_at k xs
unfolding unit_at
unit_at-append_front k xs ys inside =
    ap (λ (l : List ℕ). take 4096 l) (drop-append-le (4096 * k) xs ys (omega arith))
    ∙ take-append-le 4096 (drop (4096 * k) xs) ys (omega (arith, length-drop (4096 * k) xs))

pub unit_at-append_back : (count k j : ℕ) (xs ys : List ℕ) → IsUnits count xs → k ≡ count + j → unit_at k (xs ++ ys) ≡ unit_at j ys
unfolding unit_at
unit_at-append_back count k j xs ys whole is =
    ap (λ (m : ℕ). take 4096 (drop m (xs ++ ys))) (omega arith)
    ∙ ap (λ (l : List ℕ). take 4096 l) (sym (drop-drop (4096 * j) (4096 * count) (xs ++ ys)))
    ∙ ap (λ (l : List ℕ). take 4096 (drop (4096 * j) l)) (drop_at xs ys (4096 * count) whole)

split_last : (count : ℕ) (xs : List ℕ) → IsUnits (count + 1) xs → xs ≡ units_from 0 count xs ++ unit_at count xs
split_last count xs whole =
    sym (ap (λ (unit : List ℕ). units_from 0 count xs ++ unit) (sym (units_from-one count xs))
    ∙ ap (λ (k : ℕ). units_from 0 count xs ++ units_from k 1 xs) (omega arith)
    ∙ units_from-join 0 count 1 xs (omega (arith, whole))
    ∙ units_from-all (count + 1) xs whole)

-- whole units that are alike one by one are equal
pub same_units : (count : ℕ) (xs ys : List ℕ) → IsUnits count xs → IsUnits count ys → ((k : ℕ) → k < count → unit_at k xs ≡ unit_at k ys) → xs ≡ ys
same_units zero xs ys whole_xs whole_ys alike = no_bytes xs (omega (arith, whole_xs)) ∙ sym (no_bytes ys (omega (arith, whole_ys)))
same_units (suc count) xs ys whole_xs whole_ys alike =
    split_last count xs (omega (arith, whole_xs))
    ∙ ap (λ (front : List ℕ). front ++ unit_at count xs) (same_units count (units_from 0 count xs) (units_from 0 count ys) (length-units_from 0 count xs (omega (arith, whole_xs))) (length-units_from 0 count ys (omega (arith, whole_ys))) (λ k below.
    unit_at-units_from 0 count k xs below ∙ ap (λ (m : ℕ). unit_at m xs) (omega arith) ∙ alike k (omega arith) ∙ ap (λ (m : ℕ). unit_at m ys) (omega arith) ∙ sym (unit_at-units_from 0 count k ys below)))
    ∙ ap (λ (unit : List ℕ). units_from 0 count ys ++ unit) (alike count (omega arith))
    ∙ sym (split_last count ys (omega (arith, whole_ys)))

-- ---- what was laid

pub units_from-laid_same : (at count : ℕ) (bytes old : List ℕ) → IsUnits count bytes → 4096 * at + length bytes ≤ length old → units_from at count (overlaid at bytes old) ≡ bytes
unfolding units_from overlaid
units_from-laid_same at count bytes old whole fits =
    let front = take (4096 * at) old in
    let rest = drop (4096 * at + length bytes) old in
    ap (λ (l : List ℕ). take (4096 * count) (drop (4096 * at) l)) (append_assoc front bytes rest)
    ∙ ap (λ (l : List ℕ). take (4096 * count) l) (drop_at front (bytes ++ rest) (4096 * at) (length-take-le (4096 * at) old (omega arith)))
    ∙ take_at bytes rest (4096 * count) whole

pub overlaid-none : (at : ℕ) (old : List ℕ) → overlaid at [] old ≡ old
unfolding overlaid
overlaid-none at old =
    append_assoc (take (4096 * at) old) [] (drop (4096 * at + 0) old)
    ∙ ap (λ (n : ℕ). take (4096 * at) old ++ drop n old) (omega arith)
    ∙ take-append-drop (4096 * at) old

-- bytes that cover all
pub overlaid-whole : (bytes old : List ℕ) → length bytes ≡ length old → overlaid 0 bytes old ≡ bytes
unfolding overlaid
overlaid-whole bytes old size =
    ap (λ (l : List ℕ). bytes ++ l) (drop_all (4096 * 0 + length bytes) old (omega arith))
    ∙ append-nil bytes

-- ---- bytes filled up to whole units

pub length-in_units : (bytes : List ℕ) → length (in_units bytes) ≡ 4096 * units_for (length bytes)
length-in_units bytes = omega (arith, length-append bytes (zeros (4096 * units_for (length bytes) - length bytes)), length-zeros (4096 * units_for (length bytes) - length bytes))

pub take-in_units : (bytes : List ℕ) → take (length bytes) (in_units bytes) ≡ bytes
take-in_units bytes = take_at bytes (zeros (4096 * units_for (length bytes) - length bytes)) (length bytes) refl

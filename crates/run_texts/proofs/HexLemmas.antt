-- Digits of bytes, made piece by piece.
use Rattle.std.proofs.Common.{◌≡◌, ℕ, ◌+◌, ◌*◌, ◌/◌, ◌%◌, ◌<◌, ◌≤◌, List, [], ◌∷◌, ◌++◌, length, take, drop, slice_index, slice_set, refl, ap, arith}
use Rattle.std.proofs.lemmas.List.{append_assoc, append-nil, drop_all, drop_more, take_all, take_more_set, length-set}
use Rattle.run_texts.specs.Prelude.{hex_digit, hex_text}

-- the digits of bytes in two parts
pub hex_append : (xs ys : List ℕ) → hex_text (xs ++ ys) ≡ hex_text xs ++ hex_text ys
hex_append [] ys = refl
hex_append (x ∷ xs) ys = ap (λ (l : List ℕ). hex_digit (x / 16) ∷ hex_digit (x % 16) ∷ l) (hex_append xs ys)

-- those of what is left of bytes, from one on
hex_from : (xs : List ℕ) (i : ℕ) → i < length xs
    → hex_text (drop i xs) ≡ hex_digit (slice_index xs i / 16) ∷ hex_digit (slice_index xs i % 16) ∷ hex_text (drop (i + 1) xs)
hex_from xs i lt = ap hex_text (drop_more xs i 0 lt)

-- two writes in a row, seen from the front
two_written : (xs : List ℕ) (o x y : ℕ) → o + 1 < length xs
    → take (o + 2) (slice_set (slice_set xs o x) (o + 1) y) ≡ take o xs ++ (x ∷ y ∷ [])
two_written xs o x y fits =
    let len : length (slice_set xs o x) ≡ length xs = length-set xs o x in
    let two : o + 2 ≡ o + 1 + 1 = omega arith in
    let second = take_more_set (slice_set xs o x) (o + 1) y (omega (arith, len)) in
    let first = take_more_set xs o x (omega arith) in
    rw (two, second, first) (append_assoc (take o xs) (x ∷ []) (y ∷ []))

-- the digits of one byte more are written
pub one_byte_more : (bytes digits : List ℕ) (i x y : ℕ) → i < length bytes → 2 * i + 1 < length digits
    → x ≡ hex_digit (slice_index bytes i / 16) → y ≡ hex_digit (slice_index bytes i % 16)
    → take (2 * i) digits ++ hex_text (drop i bytes) ≡ hex_text bytes
    → take (2 * (i + 1)) (slice_set (slice_set digits (2 * i) x) (2 * i + 1) y) ++ hex_text (drop (i + 1) bytes) ≡ hex_text bytes
one_byte_more bytes digits i x y lt fits ex ey so_far =
    let two : 2 * (i + 1) ≡ 2 * i + 2 = omega arith in
    let front = two_written digits (2 * i) x y fits in
    let rest = hex_from bytes i lt in
    rw (two, front, append_assoc, ex, ey) (rw rest at so_far)

-- those of every byte are
pub all_bytes : (bytes digits : List ℕ) (i : ℕ) → length bytes ≤ i → length digits ≡ 2 * length bytes
    → take (2 * i) digits ++ hex_text (drop i bytes) ≡ hex_text bytes → digits ≡ hex_text bytes
all_bytes bytes digits i le len so_far =
    let d = drop_all i bytes le in
    let a = take_all (2 * i) digits (omega (arith, le, len)) in
    rw (d, a, append-nil) at so_far

-- The pieces of a record that are spelled from a table's rows, and its checksum.
use Rattle.std.proofs.Common.{◌≡◌, ℕ, ◌+◌, ◌-◌, ◌*◌, ◌^◌, ◌<◌, ◌≤◌, List, ◌++◌, length, take, drop, min, replicate, refl, sym, ap, ap₂, ◌∙◌, append_assoc, arith}
use Rattle.std.specs.Prelude.{bit_xor}
use Rattle.std.specs.Int.{w32, to_le_bytes}
use Rattle.std.proofs.Math.Seq.{take-append-add, drop-append-add}
use Rattle.std.proofs.lemmas.List.{length-take, length-take-le, length-drop, take_all, take_min, take-append-drop, drop-append-le}
use Rattle.byte_maps.specs.Units.{zeros, units_for, units_from}
use Rattle.byte_maps.proofs.UnitLemmas.{take-zeros}
use Rattle.crc32c_csum.specs.Prelude.{all_ones, remainder, crc32c}
use Rattle.crc32c_csum.proofs.Linear.{remainder-append}
use Rattle.crc32c_csum.proofs.Laws.{crc32c-append}
use Rattle.meta_rows.specs.declared.row_op.RowOp.{RowOp}
use Rattle.meta_rows.specs.Prelude.{Rows, ops_bytes, rows_size, row_sets}
use Rattle.meta_rows.proofs.SetLemmas.{row_sets_size}
use Rattle.meta_rows.proofs.CursorLemmas.{take_both}
use Rattle.meta_log.specs.Prelude.{record_head, record_bytes, record_units, unit_count, piece_count, piece_first, piece_units, given_from, IsSealable, body_before, body_summed}
use Rattle.meta_log.proofs.PieceLemmas.{lies}

-- ---- numbers

pub rows_below : (rows : Rows) (number : ℕ) → IsSealable number (row_sets rows) → rows_size rows < 2 ^ 32
rows_below rows number s = omega (arith, s.body_below, row_sets_size rows)

-- before the first piece no byte was given, and none is summed
pub none_given : (units size : ℕ) → units ≡ units_for (24 + size) → size ≡ body_before size (given_from units 0)
none_given units size is = omega (arith, is)

pub none_summed : (size : ℕ) → 0 ≡ body_summed size 0
none_summed size = omega arith

-- once all were given all are
pub all_summed : (units size given : ℕ) → units ≡ units_for (24 + size) → 0 ≡ given_from units given → body_summed size given ≡ size
all_summed units size given is all = omega (arith, is, all)

pub summed_more : (size given : ℕ) → body_summed size given ≤ body_summed size (given + 1)
summed_more size given = omega arith

-- back over a piece is where it begins
pub went_back : (size units given first count x y a b : ℕ) → given < piece_count units → first ≡ piece_first units given → count ≡ piece_units units given
    → y ≡ body_before size (given_from units given) → a ≡ body_before size (first + count) → b ≡ body_before size first → x + (a - b) ≡ y
    → x ≡ body_before size (given_from units (given + 1))
went_back size units given first count x y a b left first_is count_is y_is a_is b_is back =
    let l = lies units given left in
    let end : first + count ≡ given_from units given = ap₂ (λ m n. m + n) first_is count_is ∙ l.ends in
    let from : y ≡ a = y_is ∙ ap (body_before size) (sym end) ∙ sym a_is in
    let order : b ≤ a = omega (arith, a_is, b_is) in
    let to : x ≡ b = omega (arith, back, from, order) in
    to ∙ b_is ∙ ap (body_before size) (first_is ∙ l.begins)

-- ---- the checksum

take_more : (s t : ℕ) (body : List ℕ) → s ≤ t → s ≤ length body → take s body ++ take (t - s) (drop s body) ≡ take t body
take_more s t body to within =
    let all : length (take s body) + (t - s) ≡ t = omega (arith, to, length-take-le s body within) in
    sym (take-append-add (take s body) (drop s body) (t - s)) ∙ ap₂ (λ n (l : List ℕ). take n l) all (take-append-drop s body)

-- it goes over more of the body
pub sum_more : (head body taken : List ℕ) (s t r r' : ℕ) → s ≤ t → s ≤ length body → r ≡ remainder all_ones (head ++ take s body)
    → taken ≡ take (t - s) (drop s body) → r' ≡ remainder r taken → r' ≡ remainder all_ones (head ++ take t body)
sum_more head body taken s t r r' to within r_is taken_is is =
    is ∙ ap₂ (λ (x : ℕ) (l : List ℕ). remainder x l) r_is taken_is
    ∙ sym (remainder-append (head ++ take s body) (take (t - s) (drop s body)) all_ones)
    ∙ ap (remainder all_ones) (append_assoc head (take s body) (take (t - s) (drop s body)) ∙ ap (λ (l : List ℕ). head ++ l) (take_more s t body to within))

-- and then over all
pub sum_whole : (head body : List ℕ) (s r : ℕ) → s ≡ length body → r ≡ remainder all_ones (head ++ take s body) → bit_xor r all_ones ≡ crc32c (head ++ body)
sum_whole head body s r all r_is =
    let whole : take s body ≡ body = take_all s body (omega (arith, all)) in
    ap (λ x. bit_xor x all_ones) (r_is ∙ ap (λ (l : List ℕ). remainder all_ones (head ++ l)) whole ∙ remainder-append head body all_ones)
    ∙ sym (crc32c-append head body)

-- ---- the bytes of units in a row

-- the head and its checksum
abbrev front_of : ℕ → List RowOp → List ℕ
front_of number ops = record_head number ops ++ to_le_bytes w32 (crc32c (record_head number ops ++ ops_bytes ops))

take_upto : (n m : ℕ) (xs : List ℕ) → m ≡ min n (length xs) → take m xs ≡ take n xs
take_upto n m xs is = ap (λ k. take k xs) is ∙ take_min n xs

-- of the first ones
pub first_part : (number : ℕ) (ops : List RowOp) (count size sum : ℕ) (body : List ℕ) → 0 < count → sum ≡ crc32c (record_head number ops ++ ops_bytes ops)
    → size ≡ body_before (length (ops_bytes ops)) count → body ≡ take size (ops_bytes ops)
    → record_head number ops ++ to_le_bytes w32 sum ++ body ≡ take (4096 * count) (record_bytes number ops)
first_part number ops count size sum body some sum_is size_is body_is =
    let n : ℕ = 4096 * count - 24 in
    let long : length (front_of number ops) ≡ 24 = refl in
    let whole : length (front_of number ops) + n ≡ 4096 * count = omega (arith, some, long) in
    let rest : body ≡ take n (ops_bytes ops) = body_is ∙ take_upto n size (ops_bytes ops) (omega (arith, size_is)) in
    ap₂ (λ s (b : List ℕ). record_head number ops ++ to_le_bytes w32 s ++ b) sum_is rest
    ∙ sym (take-append-add (front_of number ops) (ops_bytes ops) n)
    ∙ ap (λ k. take k (record_bytes number ops)) whole

-- of others
pub later_part : (number : ℕ) (ops : List RowOp) (first count size place : ℕ) (body : List ℕ) → 0 < first → 4096 * first ≤ 24 + length (ops_bytes ops)
    → place ≡ body_before (length (ops_bytes ops)) first
    → size ≡ body_before (length (ops_bytes ops)) (first + count) - body_before (length (ops_bytes ops)) first
    → body ≡ take size (drop place (ops_bytes ops)) → body ≡ take (4096 * count) (drop (4096 * first) (record_bytes number ops))
later_part number ops first count size place body some within place_is size_is body_is =
    let n : ℕ = 4096 * first - 24 in
    let long : length (front_of number ops) ≡ 24 = refl in
    let over : 4096 * first ≡ length (front_of number ops) + n = omega (arith, some, long) in
    let here : place ≡ n = omega (arith, place_is, within, some) in
    let behind : drop (4096 * first) (record_bytes number ops) ≡ drop n (ops_bytes ops) =
    ap (λ k. drop k (record_bytes number ops)) over ∙ drop-append-add (front_of number ops) (ops_bytes ops) n in
    body_is
    ∙ ap (λ k. take size (drop k (ops_bytes ops))) here
    ∙ take_upto (4096 * count) size (drop n (ops_bytes ops)) (omega (arith, size_is, length-drop n (ops_bytes ops), within, some))
    ∙ ap (take (4096 * count)) (sym behind)

-- filled up with zeros they are units of the record
pub filled : (number : ℕ) (ops : List RowOp) (first count room len : ℕ) (bytes now : List ℕ) → 0 < count → first + count ≤ unit_count number ops
    → bytes ≡ take (4096 * count) (drop (4096 * first) (record_bytes number ops)) → room ≡ 4096 * count → len ≡ length bytes
    → now ≡ take room bytes ++ replicate (room - len) 0 → now ≡ units_from first count (record_units number ops)
unfolding units_from zeros
filled number ops first count room len bytes now some within bytes_is room_is len_is is =
    let whole : List ℕ = record_bytes number ops in
    let rest : List ℕ = drop (4096 * first) whole in
    let n : ℕ = 4096 * count in
    let z : ℕ = 4096 * units_for (length whole) - length whole in
    let long : length rest ≡ length whole - 4096 * first = length-drop (4096 * first) whole in
    let inside : 4096 * first ≤ length whole = omega (arith, some, within) in
    let count_is : length bytes ≡ min n (length rest) = ap length bytes_is ∙ length-take n rest in
    let all : take room bytes ≡ take (min n (length rest)) rest =
    take_all room bytes (omega (arith, count_is, room_is)) ∙ bytes_is ∙ sym (take_min n rest) in
    let left : room - len ≡ n - min n (length rest) = omega (arith, room_is, len_is, count_is) in
    let few : n - min n (length rest) ≤ z = omega (arith, long, within, inside) in
    is ∙ ap₂ (λ (l : List ℕ) k. l ++ replicate k 0) all left
    ∙ ap (λ (l : List ℕ). take (min n (length rest)) rest ++ l) (sym (take-zeros (n - min n (length rest)) z few))
    ∙ sym (take_both n rest (zeros z))
    ∙ ap (take n) (sym (drop-append-le (4096 * first) whole (zeros z) inside))

-- The bytes of a record, made part by part, and the bytes of its pieces.
use Rattle.std.proofs.Common.{◌≡◌, ℕ, zero, suc, ◌+◌, ◌-◌, ◌*◌, ◌<◌, ◌≤◌, List, [], ◌∷◌, ◌++◌, length, get_or, take, drop, replicate, Result, Ok, Err, OnOk, is_ok}
use Rattle.std.proofs.Common.{if◌then◌else◌, sym, ap, ap₂, ◌∙◌, arith}
use Rattle.std.specs.declared.alloc.AllocError.{AllocError}
use Rattle.std.specs.Int.{w32, to_le_bytes}
use Rattle.std.proofs.lemmas.List.{length-append, take_all}
use Rattle.crc32c_csum.specs.Prelude.{crc32c}
use Rattle.byte_maps.specs.Units.{zeros, units_for, units_from, in_units}
use Rattle.byte_maps.proofs.Prelude.{length-in_units, length-units_from}
use Rattle.meta_rows.specs.declared.row_op.RowOp.{RowOp}
use Rattle.meta_rows.specs.declared.op_cursor.OpCursor.{OpCursor}
use Rattle.meta_rows.specs.Prelude.{ops_bytes, ops_before}
use Rattle.meta_log.specs.Prelude.{head_of, record_head, record_bytes, record_units, unit_count, piece_count, piece_first, piece_units, body_before, Sealed, IsSealable, BeginAt, sealed_units, piece_bytes}
use Rattle.meta_log.proofs.PieceLemmas.{lies}

pub length-record_bytes : (number : ℕ) (ops : List RowOp) → length (record_bytes number ops) ≡ 24 + length (ops_bytes ops)
length-record_bytes number ops =
    length-append (record_head number ops ++ to_le_bytes w32 (crc32c (record_head number ops ++ ops_bytes ops))) (ops_bytes ops)

-- a record is whole units
pub length-record_units : (number : ℕ) (ops : List RowOp) → length (record_units number ops) ≡ 4096 * unit_count number ops
length-record_units number ops = length-in_units (record_bytes number ops)

pub unit_count-some : (number : ℕ) (ops : List RowOp) → 0 < unit_count number ops
unit_count-some number ops = omega (arith, length-record_bytes number ops)

pub unit_count-below : (number : ℕ) (ops : List RowOp) → IsSealable number ops → unit_count number ops ≤ 1048577
unit_count-below number ops s = omega (arith, length-record_bytes number ops, s.body_below)

-- bytes resized to whole units
pub filled_up : (r : Result (Unit {0}) AllocError) (old new : List ℕ) (units count : ℕ) → units ≡ units_for (length old) → count ≡ length old
    → new ≡ (if is_ok r then take (units * 4096) old ++ replicate (units * 4096 - count) 0 else old) → OnOk r (new ≡ in_units old)
unfolding zeros
filled_up (Ok u) old new units count is long made =
    let all : length old ≤ units * 4096 = omega (arith, is) in
    let rest : units * 4096 - count ≡ 4096 * units_for (length old) - length old = omega (arith, is, long) in
    made ∙ ap₂ (λ (a : List ℕ) (n : ℕ). a ++ replicate n 0) (take_all (units * 4096) old all) rest
filled_up (Err e) old new units count is long made = tt

-- head, checksum, body and zeros, one behind the other
pub record_of_parts : (number : ℕ) (ops : List RowOp) (body head summed whole all : List ℕ) (sum : ℕ) → body ≡ ops_bytes ops
    → head ≡ head_of number (length ops) (length body)
    → sum ≡ crc32c (head ++ body) → summed ≡ head ++ to_le_bytes w32 sum → whole ≡ summed ++ body → all ≡ in_units whole → all ≡ record_units number ops
record_of_parts number ops body head summed whole all sum body_is head_is sum_is summed_is whole_is all_is =
    let h : head ≡ record_head number ops = head_is ∙ ap (λ (b : List ℕ). head_of number (length ops) (length b)) body_is in
    let s : sum ≡ crc32c (record_head number ops ++ ops_bytes ops) = sum_is ∙ ap₂ (λ (a b : List ℕ). crc32c (a ++ b)) h body_is in
    let r : whole ≡ record_bytes number ops =
    whole_is ∙ ap₂ (λ (a b : List ℕ). a ++ b) (summed_is ∙ ap₂ (λ (a : List ℕ) (n : ℕ). a ++ to_le_bytes w32 n) h s) body_is
    in
    all_is ∙ ap in_units r

-- ---- where pieces begin

pub before_more : (size k : ℕ) → body_before size (64 * k) + (body_before size (64 * (k + 1)) - body_before size (64 * k)) ≡ body_before size (64 * (k + 1))
before_more size k = omega arith

-- one more
pub begin_more : (ops : List RowOp) (k : ℕ) (starts : List OpCursor) (at : OpCursor) → BeginAt ops k starts → at.ops ≤ length ops
    → ops_before ops at ≡ body_before (length (ops_bytes ops)) (64 * (k + length starts)) → BeginAt ops k (starts ++ at ∷ [])
begin_more ops k [] at so_far within place = (within, place ∙ ap (λ n. body_before (length (ops_bytes ops)) (64 * n)) (omega arith), tt)
begin_more ops k (first ∷ starts) at so_far within place =
    (so_far.0, so_far.1, begin_more ops (k + 1) starts at so_far.2 within (place ∙ ap (λ n. body_before (length (ops_bytes ops)) (64 * n)) (omega arith)))

-- one of them
pub begins_at : (ops : List RowOp) (k i : ℕ) (starts : List OpCursor) (default : OpCursor) → BeginAt ops k starts → i < length starts
    → ((get_or starts i default).ops ≤ length ops) × (ops_before ops (get_or starts i default) ≡ body_before (length (ops_bytes ops)) (64 * (k + i)))
begins_at ops k i [] default begin there = absurd (omega (arith, there))
begins_at ops k zero (at ∷ more) default begin there = (begin.0, begin.1 ∙ ap (λ n. body_before (length (ops_bytes ops)) (64 * n)) (omega arith))
begins_at ops k (suc i) (at ∷ more) default begin there =
    let rest = begins_at ops (k + 1) i more default begin.2 (omega (arith, there)) in
    (rest.0, rest.1 ∙ ap (λ n. body_before (length (ops_bytes ops)) (64 * n)) (omega arith))

-- the bytes of the body from there on
pub body_from : (ops held : List RowOp) (starts : List OpCursor) (piece size : ℕ) (start default : OpCursor) (body : List ℕ) → held ≡ ops → BeginAt ops 0 starts
    → piece < length starts → start ≡ get_or starts piece default → body ≡ take size (drop (ops_before held start) (ops_bytes held))
    → body ≡ take size (drop (body_before (length (ops_bytes ops)) (64 * piece)) (ops_bytes ops))
body_from ops held starts piece size start default body same begin there is body_is =
    let here : ops_before ops start ≡ body_before (length (ops_bytes ops)) (64 * piece) =
    ap (ops_before ops) is ∙ (begins_at ops 0 piece starts default begin there).1
    ∙ ap (λ n. body_before (length (ops_bytes ops)) (64 * n)) (omega arith) in
    body_is ∙ ap (λ (l : List RowOp). take size (drop (ops_before l start) (ops_bytes l))) same ∙ ap (λ n. take size (drop n (ops_bytes ops))) here

-- the only piece is the record
pub only_piece : (made : Sealed) (k : ℕ) → sealed_units made ≤ 64 → k < piece_count (sealed_units made)
    → record_units made.number made.ops ≡ piece_bytes made k
unfolding units_from
only_piece made k few counted =
    let whole : List ℕ = record_units made.number made.ops in
    let first : 0 ≡ piece_first (sealed_units made) k = omega (arith, few, counted) in
    let count : sealed_units made ≡ piece_units (sealed_units made) k = omega (arith, few, counted) in
    sym (take_all (4096 * sealed_units made) whole (omega (arith, length-record_units made.number made.ops)))
    ∙ ap₂ (λ (a b : ℕ). take (4096 * b) (drop (4096 * a) whole)) first count

-- a piece has its units
pub length-piece_bytes : (made : Sealed) (k : ℕ) → k < piece_count (sealed_units made) → length (piece_bytes made k) ≡ 4096 * piece_units (sealed_units made) k
length-piece_bytes made k counted =
    length-units_from (piece_first (sealed_units made) k) (piece_units (sealed_units made) k) (record_units made.number made.ops)
    (omega (arith, (lies (sealed_units made) k counted).within, length-record_units made.number made.ops))

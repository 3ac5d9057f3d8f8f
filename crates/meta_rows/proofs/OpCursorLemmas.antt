-- Places in the spelling of operations.
use Rattle.std.proofs.Common.{◌≡◌, ℕ, ◌+◌, ◌≤◌, List, ◌++◌, length, take, drop, sym, ap, ap₂, ◌∙◌, take-append-drop, arith}
use Rattle.std.proofs.Math.ListN.{drop_of_length-le}
use Rattle.std.proofs.Math.Seq.{take-append-add, drop-append-add}
use Rattle.std.proofs.lemmas.List.{length-append, length-take-le}
use Rattle.std.proofs.lemmas.Grind.{flat_map-append}
use Rattle.meta_rows.specs.declared.row_op.RowOp.{RowOp}
use Rattle.meta_rows.specs.declared.op_cursor.OpCursor.{OpCursor}
use Rattle.meta_rows.specs.declared.part.Part.{Part}
use Rattle.meta_rows.specs.Prelude.{op_bytes, ops_bytes, ops_before, part_with}
use Rattle.meta_rows.proofs.CursorLemmas.{part_whole, part_full}

-- those before a place, and some of those behind
front_more : (ops : List RowOp) (k i : ℕ) → k ≤ length ops → take (k + i) ops ≡ take k ops ++ take i (drop k ops)
front_more ops k i within =
    ap₂ (λ n (l : List RowOp). take n l) (ap (λ n. n + i) (sym (length-take-le k ops within))) (sym (take-append-drop k ops))
    ∙ take-append-add (take k ops) (drop k ops) i

-- the place behind some bytes, once the operations that end before it were gone over
pub place_behind : (ops items : List RowOp) (at now : OpCursor) (i count : ℕ) → items ≡ drop at.ops ops → at.ops ≤ length ops → now.ops ≡ at.ops + i
    → length (ops_bytes (take i items)) + now.passed ≡ at.passed + count → ops_before ops now ≡ ops_before ops at + count
place_behind ops items at now i count is within ops_is place =
    let front : ops_bytes (take now.ops ops) ≡ ops_bytes (take at.ops ops) ++ ops_bytes (take i items) =
    ap ops_bytes (ap (λ n. take n ops) ops_is ∙ front_more ops at.ops i within ∙ ap (λ (l : List RowOp). take at.ops ops ++ take i l) (sym is))
    ∙ flat_map-append op_bytes (take at.ops ops) (take i items) in
    omega (arith, place, ap length front ∙ length-append (ops_bytes (take at.ops ops)) (ops_bytes (take i items)))

-- what lies behind a place
on_from : (ops items : List RowOp) (at : OpCursor) → items ≡ drop at.ops ops → drop (ops_before ops at) (ops_bytes ops) ≡ drop at.passed (ops_bytes items)
on_from ops items at is =
    ap (drop (ops_before ops at)) (ap ops_bytes (sym (take-append-drop at.ops ops)) ∙ flat_map-append op_bytes (take at.ops ops) (drop at.ops ops))
    ∙ drop-append-add (ops_bytes (take at.ops ops)) (ops_bytes (drop at.ops ops)) at.passed
    ∙ ap (λ (l : List RowOp). drop at.passed (ops_bytes l)) (sym is)

-- a part has all that it wants, or has gone over all operations
pub spelled_full : (ops items : List RowOp) (at : OpCursor) (count i : ℕ) (part : Part) → items ≡ drop at.ops ops
    → part_with part (ops_bytes (drop i items)) ≡ take count (drop at.passed (ops_bytes items)) → part.left ≡ 0
    → part.bytes.items ≡ take count (drop (ops_before ops at) (ops_bytes ops))
spelled_full ops items at count i part is so_far none =
    sym (part_full part (ops_bytes (drop i items)) none) ∙ so_far ∙ ap (take count) (sym (on_from ops items at is))

pub spelled_whole : (ops items : List RowOp) (at : OpCursor) (count i : ℕ) (part : Part) → items ≡ drop at.ops ops
    → part_with part (ops_bytes (drop i items)) ≡ take count (drop at.passed (ops_bytes items)) → length items ≤ i
    → part.bytes.items ≡ take count (drop (ops_before ops at) (ops_bytes ops))
spelled_whole ops items at count i part is so_far all =
    sym (part_whole part) ∙ ap (λ (l : List RowOp). part_with part (ops_bytes l)) (sym (drop_of_length-le items all)) ∙ so_far
    ∙ ap (take count) (sym (on_from ops items at is))

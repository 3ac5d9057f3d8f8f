-- The spelling of the operations that turn bits.
use Rattle.std.proofs.Common.{◌≡◌, ℕ, suc, ◌+◌, ◌*◌, ◌≤◌, List, [], ◌∷◌, length, refl, sym, ap, subst, ◌∙◌, arith}
use Rattle.std.proofs.lemmas.List.{length-append}
use Rattle.std.proofs.lemmas.List.Concat.{flat_map-cons}
use Rattle.meta_rows.specs.declared.row_op.RowOp.{RowOp}
use Rattle.meta_rows.specs.declared.row_op.RowOp.TheVariants.{Flip}
use Rattle.meta_rows.specs.Prelude.{key_bytes, value_bytes, op_bytes, ops_bytes, FitsRowOp, AllFit}
use Rattle.row_format.specs.Prelude.{bitmap_key}
use Rattle.bitmap_freelist.specs.Bitmap.{Units, IsFlipOfNext, AreFlipsFrom, AreFlips}

-- a key has 5 bytes
key_size : (r : ℕ) → length (bitmap_key r) ≡ 5
key_size r = refl

-- one operation
one_fits : (units : Units) (from r : ℕ) (op : RowOp) → IsFlipOfNext units from r op → FitsRowOp op
one_fits units from r op next =
    let size = key_size r in
    let fits : FitsRowOp (Flip (bitmap_key r) next.mask)
    = (record { some = omega (arith, size); short = omega (arith, size) }, omega (arith, next.exact.size)) in
    subst FitsRowOp (sym next.is) fits

fits_from : (units : Units) (from : ℕ) (ops : List RowOp) → AreFlipsFrom units from ops → AllFit ops
fits_from units from [] are = tt
fits_from units from (op ∷ ops) are = (one_fits units from are.0 op are.1, fits_from units (suc are.0) ops are.2)

-- all of them
pub flips_fit : (units : Units) (ops : List RowOp) → AreFlips units ops → AllFit ops
flips_fit units ops are = fits_from units 0 ops are

-- the bytes of one
one_size : (units : Units) (from r : ℕ) (op : RowOp) → IsFlipOfNext units from r op → length (op_bytes op) ≡ 28
one_size units from r op next =
    let key = bitmap_key r in
    ap (λ o. length (op_bytes o)) next.is
    ∙ omega (arith, length-append (3 ∷ key_bytes key) (value_bytes next.mask), key_size r, next.exact.size)

size_from : (units : Units) (from : ℕ) (ops : List RowOp) → AreFlipsFrom units from ops → length (ops_bytes ops) ≡ 28 * length ops
size_from units from [] are = refl
size_from units from (op ∷ ops) are =
    omega (
      arith,
      ap length (flat_map-cons op_bytes op ops),
      length-append (op_bytes op) (ops_bytes ops),
      one_size units from are.0 op are.1,
      size_from units (suc are.0) ops are.2,
    )

-- those of all
pub flips_size : (units : Units) (ops : List RowOp) → AreFlips units ops → length (ops_bytes ops) ≡ 28 * length ops
flips_size units ops are = size_from units 0 ops are

-- there are at most as many operations as rows from the first on
count_from : (units : Units) (from : ℕ) (ops : List RowOp) → from ≤ 33554432 → AreFlipsFrom units from ops → length ops + from ≤ 33554432
count_from units from [] most are = omega (arith, most)
count_from units from (op ∷ ops) most are =
    omega (arith, are.1.from_there, count_from units (suc are.0) ops (omega (arith, are.1.below)) are.2)

-- and as many as rows
pub flips_count : (units : Units) (ops : List RowOp) → AreFlips units ops → length ops ≤ 33554432
flips_count units ops are = omega (arith, count_from units 0 ops (omega arith) are)

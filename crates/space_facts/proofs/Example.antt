-- The bits of a unit that one transaction takes and a later one releases.
use Rattle.std.proofs.Common.{◌≡◌, ℕ, cond, List, [], ◌∷◌, Option, Some, None, sym, ap, ◌∙◌, arith}
use Rattle.std.specs.Prelude.{unwrap_or}
use Rattle.std.specs.FinMap as finite
use Rattle.byte_maps.specs.ByteMap.{byte_order}
use Rattle.meta_rows.specs.Prelude.{row_after, xor_bytes, all_zero}
use Rattle.meta_rows.specs.declared.row_op.RowOp.TheVariants.{Flip}
use Rattle.row_format.specs.Prelude.{bit_in, bitmap_key}
use Rattle.store_image.specs.Prelude.{bit_of, IsMarked}
use Rattle.unit_allocator.proofs.Lists.{Contains-head}
use Rattle.plan_rows.proofs.Alike.{get-flip}
use Rattle.store_steps.specs.Prelude.{rows_by}
use Rattle.space_facts.specs.Example.{eighteen, both, two, no_rows}
use Rattle.space_facts.proofs.Spaces.{IsBusyBy, taken_busy}

abbrev left : List ℕ → Option (List ℕ) → Option (List ℕ)
left mask held = cond (all_zero (xor_bytes (unwrap_or held []) mask)) None (Some (xor_bytes (unwrap_or held []) mask))

none_there : finite.get no_rows (bitmap_key 0) ≡ None
none_there = finite.get-empty byte_order (bitmap_key 0)

after_one : finite.get (row_after no_rows (Flip (bitmap_key 0) eighteen)) (bitmap_key 0) ≡ Some eighteen
after_one = get-flip no_rows (bitmap_key 0) eighteen ∙ ap (left eighteen) none_there

after_both : finite.get (rows_by no_rows two) (bitmap_key 0) ≡ Some (xor_bytes eighteen both)
after_both = get-flip (row_after no_rows (Flip (bitmap_key 0) eighteen)) (bitmap_key 0) both ∙ ap (left both) after_one

pub unmarked_first : ¬ IsMarked no_rows 18
unmarked_first marked =
    let bit : bit_of no_rows 18 ≡ 0 = ap (λ (o : Option (List ℕ)). bit_in (unwrap_or o []) 18) none_there in
    omega (arith, sym marked ∙ bit)

pub unmarked_last : ¬ IsMarked (rows_by no_rows two) 18
unmarked_last marked =
    let bit : bit_of (rows_by no_rows two) 18 ≡ 0 = ap (λ (o : Option (List ℕ)). bit_in (unwrap_or o []) 18) after_both in
    omega (arith, sym marked ∙ bit)

pub still_busy : IsBusyBy no_rows two 18
still_busy = taken_busy no_rows two 18 (Contains-head 18 (19 ∷ []))

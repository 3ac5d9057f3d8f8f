-- The operations that turn units' bits, made row by row.
use Rattle.std.proofs.Common.{◌≡◌, ◌≢◌, ◌↔◌, inl, ⊎_elim, ℕ, zero, suc, ◌/◌, ◌^◌, ◌<◌, ◌≤◌, List, [], ◌∷◌, ◌++◌, length, get_or, take, drop, refl}
use Rattle.std.proofs.Common.{sym, ap, subst, ◌∙◌, arith, append_assoc, append-nil, length-drop}
use Rattle.std.specs.List.{AllByRecursion}
use Rattle.std.specs.FinSet as set
use Rattle.std.proofs.lemmas.Bool.{cases_lt}
use Rattle.unit_fields.specs.Prelude.{Ascends}
use Rattle.meta_rows.specs.Prelude.{FitsRowOp, AllFit}
use Rattle.meta_rows.specs.declared.row_op.RowOp.{RowOp}
use Rattle.meta_rows.specs.declared.row_op.RowOp.TheVariants.{Flip}
use Rattle.row_format.specs.Prelude.{bitmap_key}
use Rattle.bitmap_freelist.specs.Bitmap.{Units, Has, IsFlipOfNext, AreFlipsFrom, AreFlips, GetFlips}
use Rattle.bitmap_freelist.specs.Masks.{IsFrontOfRow, mask_of}
use Rattle.bitmap_freelist.proofs.Bits.{IsIn, mask_of-size, mask_of_are}
use Rattle.bitmap_freelist.proofs.Sets.{in_set, in_part, in_front, in_back, all_in, ascends_drop, least, behind_row, all_from}

-- The operations turn the bits of the units of all rows before `from`, and these are the units that are left.
pub record IsFlippedTo (units : Units) (left : List ℕ) (ops : List RowOp) : Type 0 where
  pub from : ℕ
  pub has : (unit : ℕ) → IsIn unit left → Has units unit
  pub left_are : (unit : ℕ) → from ≤ unit / 128 → Has units unit → IsIn unit left
  pub left_from : AllByRecursion (λ u. from ≤ u / 128) left
  pub ascends : Ascends left
  pub goes_on : (more : List RowOp) → AreFlipsFrom units from more → AreFlips units (ops ++ more)

-- before the first row
pub start : (units : Units) (us : List ℕ) → set.from_list us ≡ units → Ascends us → IsFlippedTo units us []
start units us is up = record {
  from = 0;
  has = λ unit there. (in_set us units is unit).1 there;
  left_are = λ unit ge there. (in_set us units is unit).0 there;
  left_from = all_from us 0 0 (omega arith) (λ unit there. omega arith);
  ascends = up;
  goes_on = λ more are. are;
}

module _ (units : Units) (first n : ℕ) (rest : List ℕ) (ops : List RowOp) (f : IsFlippedTo units (first ∷ rest) ops) (below : first < 2 ^ 32)
    (front : IsFrontOfRow (first / 128) n (first ∷ rest)) where
  -- the unit at the front is of its own row
  pub some_front : 0 < n
  some_front = by n front.ends
    where
      by : (k : ℕ) → (k < length (first ∷ rest) → get_or (first ∷ rest) k 0 / 128 ≢ first / 128) → 0 < k
      by zero ends = absurd (ends (omega arith) refl)
      by (suc k) ends = omega arith

  -- the units behind them are of later rows
  behind : AllByRecursion (λ u. first / 128 < u / 128) (drop n (first ∷ rest))
  behind =
      behind_row (first ∷ rest) (first / 128) n f.ascends (all_from (first ∷ rest) (first / 128) first (omega arith) (least first rest f.ascends))
      front.ends

  -- the units of the row are those at the front
  of_row : (unit : ℕ) → unit / 128 ≡ first / 128 → IsIn unit (take n (first ∷ rest)) ↔ Has units unit
  of_row unit own = (
    λ there. f.has unit (in_front (first ∷ rest) n unit there),
    λ has. ⊎_elim (λ there. there) (λ later. absurd (let after : first / 128 < unit / 128 = all_in (λ u. first / 128 < u / 128) (drop n (first ∷
        rest)) behind unit later in omega (arith, after, own)))
        (in_part (first ∷ rest) n unit (f.left_are unit (omega (arith, f.left_from.0, own)) has)),
  )

  -- the operation is that of the next row
  next : (op : RowOp) → op ≡ Flip (bitmap_key (first / 128)) (mask_of (take n (first ∷ rest))) → IsFlipOfNext units f.from (first / 128) op
  next op is = record {
    mask = mask_of (take n (first ∷ rest));
    is = is;
    exact = record {
      size = mask_of-size (take n (first ∷ rest));
      bits = λ unit own.
          let bits = mask_of_are (take n (first ∷ rest)) (first / 128) unit front.of_row own in
          let those = of_row unit own in
          (λ one. those.0 (bits.0 one), λ has. bits.1 (those.1 has));
    };
    below = omega (arith, below);
    from_there = f.left_from.0;
    some = (first, f.has first (inl refl), refl);
    first = λ unit has ge. let most = least first rest f.ascends unit (f.left_are unit ge has) in omega (arith, most);
  }

  -- one more row
  pub step : (op : RowOp) → op ≡ Flip (bitmap_key (first / 128)) (mask_of (take n (first ∷ rest)))
      → IsFlippedTo units (drop n (first ∷ rest)) (ops ++ op ∷ [])
  step op is = record {
    from = suc (first / 128);
    has = λ unit there. f.has unit (in_back (first ∷ rest) n unit there);
    left_are = λ unit ge has.
        ⊎_elim (λ there. absurd (let own : unit / 128 ≡ first / 128 = all_in (λ u. u / 128 ≡ first / 128) (take n (first ∷ rest)) front.of_row unit
        there in omega (arith, own, ge))) (λ later. later)
        (in_part (first ∷ rest) n unit (f.left_are unit (omega (arith, f.left_from.0, ge)) has));
    left_from = behind;
    ascends = ascends_drop (first ∷ rest) n f.ascends;
    goes_on = λ more are. subst (AreFlips units) (sym (append_assoc ops (op ∷ []) more)) (f.goes_on (op ∷ more) (first / 128, next op is, are));
  }

-- the same as the loop sees it
pub step_on : (units : Units) (left of_row behind : List ℕ) (ops : List RowOp) (first n : ℕ) (op : RowOp) → IsFlippedTo units left ops
    → 0 < length left
    → first ≡ get_or left 0 first → first < 2 ^ 32 → IsFrontOfRow (first / 128) n left → of_row ≡ take n left → behind ≡ drop n left
    → op ≡ Flip (bitmap_key (first / 128)) (mask_of of_row) → IsFlippedTo units behind (ops ++ op ∷ []) × (length behind < length left)
step_on units [] of_row behind ops first n op f some is below front take_is drop_is op_is = absurd (omega arith)
step_on units (u ∷ left) of_row behind ops first n op f some is below front take_is drop_is op_is =
    let f' = subst (λ v. IsFlippedTo units (v ∷ left) ops) (sym is) f in
    let front' = subst (λ v. IsFrontOfRow (first / 128) n (v ∷ left)) (sym is) front in
    let is' = op_is ∙ ap (λ us. Flip (bitmap_key (first / 128)) (mask_of us)) (take_is ∙ ap (λ v. take n (v ∷ left)) (sym is)) in
    let stepped = step units first n left ops f' below front' op is' in
    let more = some_front units first n left ops f' below front' in (
      subst (λ us. IsFlippedTo units us (ops ++ op ∷ [])) (ap (λ v. drop n (v ∷ left)) is ∙ sym drop_is) stepped,
      omega (arith, ap length drop_is, length-drop n (u ∷ left), more),
    )

-- after the last row
pub end : (units : Units) (left : List ℕ) (ops : List RowOp) → IsFlippedTo units left ops → length left ≡ 0 → AreFlips units ops
end units [] ops f none =
    subst (AreFlips units) (append-nil ops) (f.goes_on [] (λ unit has. ends (f.from) unit (f.left_are unit) has))
  where
    ends : (from unit : ℕ) → (from ≤ unit / 128 → Has units unit → IsIn unit []) → Has units unit → unit / 128 < from
    ends from unit are has = ⊎_elim (λ lt. lt) (λ ge. absurd (are ge has)) (cases_lt (unit / 128) from)
end units (u ∷ left) ops f none = absurd (omega arith)

-- one more operation that fits
pub fits_on : (ops : List RowOp) (op : RowOp) → AllFit ops → FitsRowOp op → AllFit (ops ++ op ∷ [])
fits_on [] op all own = (own, tt)
fits_on (o ∷ ops) op all own = (all.0, fits_on ops op all.1 own)

-- Behind the operations that were there are those of all rows before some one, and these are the units that are left.
pub record ArePushedTo (units : Units) (left : List ℕ) (old now : List RowOp) : Type 0 where
  pub flips : List RowOp
  pub now_is : now ≡ old ++ flips
  pub flipped : IsFlippedTo units left flips
  pub fit : AllFit flips

-- before the first one
pub pushed_none : (units : Units) (us : List ℕ) (old : List RowOp) → set.from_list us ≡ units → Ascends us → ArePushedTo units us old old
pushed_none units us old is up = record { flips = []; now_is = sym (append-nil old); flipped = start units us is up; fit = tt }

-- with one more row
pub pushed_on : (units : Units) (left later : List ℕ) (old now next : List RowOp) (op : RowOp) (p : ArePushedTo units left old now)
    → next ≡ now ++ op ∷ [] → IsFlippedTo units later (p.flips ++ op ∷ []) → FitsRowOp op → ArePushedTo units later old next
pushed_on units left later old now next op p is flipped fits = record {
  flips = p.flips ++ op ∷ [];
  now_is = is ∙ ap (λ (ops : List RowOp). ops ++ op ∷ []) p.now_is ∙ append_assoc old p.flips (op ∷ []);
  flipped = flipped;
  fit = fits_on p.flips op p.fit fits;
}

-- after the last one
pub pushed_all : (units : Units) (left : List ℕ) (old now : List RowOp) → ArePushedTo units left old now → length left ≡ 0 → GetFlips units old now
pushed_all units left old now p none =
    record { flips = p.flips; new_is = p.now_is; are_flips = end units left p.flips p.flipped none; fit = p.fit }

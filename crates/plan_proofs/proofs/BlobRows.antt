-- What becomes of a blob's row where pages leave its slots: each slot's count is less by the pages that left it, and the row is good while it stands.
use Rattle.std.proofs.Common.{◌≡◌, ◌≢◌, ℕ, zero, suc, ◌+◌, ◌-◌, ◌<◌, ◌≤◌, ◌^◌, Bool, true, false, cond, List, [], ◌∷◌, length, Option, Some, None, is_some, refl, sym, ap, subst, ◌∙◌, arith}
use Rattle.std.specs.Prelude.{◌==◌, nat_lt, slice_get, Any, ◌||◌}
use Rattle.std.specs.Option.{option_map}
use Rattle.std.specs.List.{AllByRecursion}
use Rattle.std.specs.Int.{w32, from_le_bytes}
use Rattle.std.specs.FinMap as finite
use Rattle.std.proofs.lemmas.Bool.{ltb-true, lt-ltb, eqb-true, eq-eqb}
use Rattle.std.proofs.lemmas.List.Folds.{Any-from_list_any, list_any-from_Any}
use Rattle.std.proofs.lemmas.Option.{same_Some}
use Rattle.unit_fields.specs.declared.width.Width.{Width}
use Rattle.unit_fields.specs.declared.width.Width.TheVariants.{FourBytes}
use Rattle.meta_rows.specs.Prelude.{Rows}
use Rattle.meta_log.specs.declared.slot.Super.{Super}
use Rattle.meta_log.specs.Prelude.{width_of}
use Rattle.row_format.specs.Prelude.{shared_key, a_shared_blob, Slot, slots_read, FitsCsum, FitsSlot, FitsBlob, Row, blob, row_value}
use Rattle.row_format.proofs.Prelude.{shared_again, reads_row, same_row}
use Rattle.store_image.specs.Prelude.{HasKey, HasRow, HasSlot, IsBlank, IsBlobInPlace, IsGoodRow, NoBadRow}
use Rattle.store_image.proofs.Prelude.{in_place, blob_there}
use Rattle.plan_drafts.specs.Prelude.{times_in, lowered, with_one_less, with_less, any_named, blob_value, blob_after}

-- ---- slots

-- a slot that so many pages less name
abbrev pub lessened : ℕ → Slot → Slot
lessened zero x = x
lessened (suc n) x = lessened n (lowered x)

pub lessened_count : (n : ℕ) (x : Slot) → (lessened n x).count ≡ x.count - n
lessened_count zero x = omega arith
lessened_count (suc n) x = let t = lessened_count n (lowered x) in omega (arith, t)

lowered_csum : (x : Slot) → 1 < x.count → (lowered x).csum ≡ x.csum
lowered_csum x some = ap (λ b. cond b x.csum 0) (lt-ltb 1 x.count some)

-- while pages name it, it keeps its checksum
pub lessened_csum : (n : ℕ) (x : Slot) → n < x.count → (lessened n x).csum ≡ x.csum
lessened_csum zero x some = refl
lessened_csum (suc n) x some = lessened_csum n (lowered x) (omega (arith, some)) ∙ lowered_csum x (omega (arith, some))

pub lessened_is : (n : ℕ) (x : Slot) → n < x.count → lessened n x ≡ record { csum = x.csum; count = x.count - n }
lessened_is n x some = λ i. record { csum = lessened_csum n x some i; count = lessened_count n x i }

-- what holds of each slot, holds of one that is lowered
abbrev IsKept : (Slot → Type 0) → Type 0
IsKept P = (x : Slot) → P x → P (lowered x)

no_csum : (w : Width) → FitsCsum w 0
no_csum FourBytes = omega arith

fits_lowered : (w : Width) → IsKept (FitsSlot w)
fits_lowered w x fits = (by (nat_lt 1 x.count), omega (arith, fits.1))
  where
    by : (b : Bool) → FitsCsum w (cond b x.csum 0)
    by true = fits.0
    by false = no_csum w

blank_lowered : IsKept IsBlank
blank_lowered x blank = λ none. by (nat_lt 1 x.count) refl none
  where
    by : (b : Bool) → nat_lt 1 x.count ≡ b → x.count - 1 ≡ 0 → cond b x.csum 0 ≡ 0
    by true p none = absurd (let some = ltb-true 1 x.count p in omega (arith, some, none))
    by false p none = refl

-- ---- lists of slots

one_less_length : (xs : List Slot) (k : ℕ) → length (with_one_less xs k) ≡ length xs
one_less_length [] k = refl
one_less_length (x ∷ xs) zero = refl
one_less_length (x ∷ xs) (suc k) = ap suc (one_less_length xs k)

pub less_length : (xs : List Slot) (ks : List ℕ) → length (with_less xs ks) ≡ length xs
less_length xs [] = refl
less_length xs (k ∷ ks) = less_length (with_one_less xs k) ks ∙ one_less_length xs k

one_less_all : (P : Slot → Type 0) → IsKept P → (xs : List Slot) (k : ℕ) → AllByRecursion P xs → AllByRecursion P (with_one_less xs k)
one_less_all P kept [] k all = tt
one_less_all P kept (x ∷ xs) zero all = (kept x all.0, all.1)
one_less_all P kept (x ∷ xs) (suc k) all = (all.0, one_less_all P kept xs k all.1)

less_all : (P : Slot → Type 0) → IsKept P → (xs : List Slot) (ks : List ℕ) → AllByRecursion P xs → AllByRecursion P (with_less xs ks)
less_all P kept xs [] all = all
less_all P kept xs (k ∷ ks) all = less_all P kept (with_one_less xs k) ks (one_less_all P kept xs k all)

one_less_at : (xs : List Slot) (k : ℕ) → slice_get (with_one_less xs k) k ≡ option_map lowered (slice_get xs k)
one_less_at [] k = refl
one_less_at (x ∷ xs) zero = refl
one_less_at (x ∷ xs) (suc k) = one_less_at xs k

one_less_other : (xs : List Slot) (k i : ℕ) → k ≢ i → slice_get (with_one_less xs k) i ≡ slice_get xs i
one_less_other [] k i apart = refl
one_less_other (x ∷ xs) zero zero apart = absurd (apart refl)
one_less_other (x ∷ xs) zero (suc i) apart = refl
one_less_other (x ∷ xs) (suc k) zero apart = refl
one_less_other (x ∷ xs) (suc k) (suc i) apart = one_less_other xs k i (λ e. apart (ap suc e))

-- each slot is lowered as often as its number is among these
pub less_at : (xs : List Slot) (ks : List ℕ) (i : ℕ) → slice_get (with_less xs ks) i ≡ option_map (lessened (times_in ks i)) (slice_get xs i)
less_at xs [] i = same (slice_get xs i)
  where
    same : (x : Option Slot) → x ≡ option_map (lessened 0) x
    same None = refl
    same (Some x) = refl
less_at xs (k ∷ ks) i = less_at (with_one_less xs k) ks i ∙ by (k == i) refl
  where
    once_more : (x : Option Slot) → option_map (lessened (times_in ks i)) (option_map lowered x) ≡ option_map (lessened (1 + times_in ks i)) x
    once_more None = refl
    once_more (Some x) = let e : suc (times_in ks i) ≡ 1 + times_in ks i = omega arith in ap (λ n. Some (lessened n x)) e

    by : (b : Bool) → (k == i) ≡ b → option_map (lessened (times_in ks i)) (slice_get (with_one_less xs k) i)
        ≡ option_map (lessened (cond b (1 + times_in ks i) (times_in ks i))) (slice_get xs i)
    by true p =
        let e : k ≡ i = eqb-true k i p in
        let here = ap (λ j. slice_get (with_one_less xs k) j) (sym e) ∙ one_less_at xs k ∙ ap (λ j. option_map lowered (slice_get xs j)) e in
        ap (option_map (lessened (times_in ks i))) here
        ∙ once_more (slice_get xs i)
    by false p = ap (option_map (lessened (times_in ks i))) (one_less_other xs k i (λ e. let t = eq-eqb k i e in cc))

-- ---- pages that name slots

is_named : (xs : List Slot) → Any (λ x. 0 < x.count) xs → any_named xs ≡ true
is_named xs (k, x, lt, at, some) = list_any-from_Any (λ x. nat_lt 0 x.count) xs (k, x, lt, at, lt-ltb 0 x.count some)

some_named : (xs : List Slot) → any_named xs ≡ true → Any (λ x. 0 < x.count) xs
some_named xs is = named (Any-from_list_any (λ x. nat_lt 0 x.count) xs is)
  where
    named : Any (λ x. nat_lt 0 x.count ≡ true) xs → Any (λ x. 0 < x.count) xs
    named (k, x, lt, at, some) = (k, x, lt, at, ltb-true 0 x.count some)

slot_named : (xs : List Slot) (i : ℕ) (x : Slot) → slice_get xs i ≡ Some x → 0 < x.count → any_named xs ≡ true
slot_named [] i x at some = absurd cc
slot_named (z ∷ xs) zero x at some =
    let e : z ≡ x = same_Some z x at in
    ap (λ b. b || any_named xs) (lt-ltb 0 z.count (omega (arith, some, ap (λ y. y.count) e)))
slot_named (z ∷ xs) (suc i) x at some = ap (λ b. nat_lt 0 z.count || b) (slot_named xs i x at some) ∙ or_true (nat_lt 0 z.count)
  where
    or_true : (b : Bool) → (b || true) ≡ true
    or_true true = refl
    or_true false = refl

-- ---- the row

abbrev first_of : Row → ℕ
first_of (blob sbid first slots) = first
first_of row = 0

abbrev slots_of : Row → List Slot
slots_of (blob sbid first slots) = slots
slots_of row = []

-- what a slot is, rows say once
pub one_slot : (w : Width) (rows : Rows) (sbid index unit other : ℕ) (x z : Slot) → HasSlot w rows sbid index unit x → HasSlot w rows sbid index other z → x ≡ z
one_slot w rows sbid index unit other x z a b =
    let value = same_Some (row_value w (blob sbid a.first a.slots)) (row_value w (blob sbid b.first b.slots)) (sym a.has_blob.stands ∙ b.has_blob.stands) in
    let same = same_row w (blob sbid a.first a.slots) (blob sbid b.first b.slots) a.has_blob.fits b.has_blob.fits refl value in
    same_Some x z (sym a.there ∙ ap (λ xs. slice_get xs index) (ap slots_of same) ∙ b.there)

none_after : (w : Width) (value : Option (List ℕ)) (ks : List ℕ) → value ≡ None → blob_after w value ks ≡ None
none_after w value [] none = none
none_after w value (k ∷ ks) none = ap (λ v. blob_after w v (k ∷ ks)) none

-- Of a blob pages left slots with these numbers, and of no other one.
module _ (s : Super) (rows after : Rows) (good : NoBadRow s rows) (sbid : ℕ) (low : sbid < 2 ^ 64) (ks : List ℕ)
    (becomes : finite.get after (shared_key sbid) ≡ blob_after (width_of s) (finite.get rows (shared_key sbid)) ks) where
  abbrev w : Width
  w = width_of s

  placed_before : (first : ℕ) (xs : List Slot) → HasRow w rows (blob sbid first xs) → IsBlobInPlace s sbid first xs
  placed_before first xs has = in_place s rows (blob sbid first xs) good has

  -- the row that it has then goes by its slots
  row_made : (first : ℕ) (xs : List Slot) → HasRow w rows (blob sbid first xs) → finite.get after (shared_key sbid) ≡ blob_value w first (with_less xs ks)
  row_made first xs has = becomes ∙ ap (λ v. blob_after w v ks) has.stands ∙ by ks
    where
      value : List ℕ
      value = row_value w (blob sbid first xs)

      read : blob sbid first xs ≡ blob sbid (from_le_bytes w32 value) (slots_read w value)
      read = reads_row w (blob sbid first xs) (blob sbid (from_le_bytes w32 value) (slots_read w value)) (shared_key sbid) value (a_shared_blob sbid)
          has.fits refl refl (shared_again sbid low) refl

      by : (ks : List ℕ) → blob_after w (Some value) ks ≡ blob_value w first (with_less xs ks)
      by [] = sym (ap (λ b. cond b (Some value) None) (is_named xs (placed_before first xs has).named))
      by (k ∷ ks) = λ i. blob_value w (ap first_of (sym read) i) (with_less (ap slots_of (sym read) i) (k ∷ ks))

  fits_less : (first : ℕ) (xs : List Slot) → HasRow w rows (blob sbid first xs) → FitsBlob w sbid first (with_less xs ks)
  fits_less first xs has = record {
    number = has.fits.number;
    unit = has.fits.unit;
    some = subst (λ n. 0 < n) (sym (less_length xs ks)) has.fits.some;
    few = subst (λ n. n ≤ 256) (sym (less_length xs ks)) has.fits.few;
    fit = less_all (FitsSlot w) (fits_lowered w) xs ks has.fits.fit;
  }

  row_stands : (first : ℕ) (xs : List Slot) → HasRow w rows (blob sbid first xs) → any_named (with_less xs ks) ≡ true
      → HasRow w after (blob sbid first (with_less xs ks))
  row_stands first xs has named = record {
    fits = fits_less first xs has;
    stands = row_made first xs has ∙ ap (λ b. cond b (Some (row_value w (blob sbid first (with_less xs ks)))) None) named;
  }

  -- its slots were these, and pages name some of those that it has
  pub record WasBlob (first : ℕ) (ys : List Slot) : Type 0 where
    pub slots : List Slot
    pub has_blob : HasRow w rows (blob sbid first slots)
    pub less : ys ≡ with_less slots ks
    pub named : any_named ys ≡ true

  pub blob_was : (first : ℕ) (ys : List Slot) → HasRow w after (blob sbid first ys) → WasBlob first ys
  blob_was first ys has = before (finite.get rows (shared_key sbid)) refl
    where
      before : (v : Option (List ℕ)) → finite.get rows (shared_key sbid) ≡ v → WasBlob first ys
      before None p = absurd (let t = sym has.stands ∙ becomes ∙ none_after w (finite.get rows (shared_key sbid)) ks p in cc)
      before (Some v) p =
          let there = blob_there s rows sbid low good (Some v) p refl in
          let xs : List Slot = there.1.0 in
          let made = sym has.stands ∙ row_made there.0 xs there.1.1 in
          by there.0 xs there.1.1 (any_named (with_less xs ks)) refl made
        where
          by : (unit : ℕ) (xs : List Slot) → HasRow w rows (blob sbid unit xs) → (b : Bool) → any_named (with_less xs ks) ≡ b
              → Some (row_value w (blob sbid first ys)) ≡ cond b (Some (row_value w (blob sbid unit (with_less xs ks)))) None → WasBlob first ys
          by unit xs was false p e = absurd cc
          by unit xs was true p e =
              let same : blob sbid first ys ≡ blob sbid unit (with_less xs ks) =
              same_row w (blob sbid first ys) (blob sbid unit (with_less xs ks)) has.fits (fits_less unit xs was) refl
              (same_Some (row_value w (blob sbid first ys)) (row_value w (blob sbid unit (with_less xs ks))) e) in
              record {
                slots = xs;
                has_blob = subst (λ n. HasRow w rows (blob sbid n xs)) (sym (ap first_of same)) was;
                less = ap slots_of same;
                named = ap any_named (ap slots_of same) ∙ p;
              }

  -- ---- what holds then

  -- the blob's row is in its place, and has as many slots
  pub blob_placed : (first : ℕ) (ys : List Slot) → HasRow w after (blob sbid first ys) → IsBlobInPlace s sbid first ys
  blob_placed first ys has =
      let was = blob_was first ys has in
      let placed = placed_before first was.slots was.has_blob in
      let long : length ys ≡ length was.slots = ap length was.less ∙ less_length was.slots ks in
      record {
        low = placed.low;
        on_data = (placed.on_data.0, omega (arith, long, placed.on_data.1));
        named = some_named ys was.named;
        blank = subst (AllByRecursion IsBlank) (sym was.less) (less_all IsBlank blank_lowered was.slots ks placed.blank);
      }

  -- so a row under its key is good
  pub blob_row_good : (value : List ℕ) → finite.get after (shared_key sbid) ≡ Some value → IsGoodRow s after (shared_key sbid) value
  blob_row_good value stands = before (finite.get rows (shared_key sbid)) refl
    where
      before : (v : Option (List ℕ)) → finite.get rows (shared_key sbid) ≡ v → IsGoodRow s after (shared_key sbid) value
      before None p = absurd (let t = sym stands ∙ becomes ∙ none_after w (finite.get rows (shared_key sbid)) ks p in cc)
      before (Some v) p =
          let there = blob_there s rows sbid low good (Some v) p refl in
          by there.0 there.1.0 there.1.1 (any_named (with_less there.1.0 ks)) refl (sym stands ∙ row_made there.0 there.1.0 there.1.1)
        where
          by : (unit : ℕ) (xs : List Slot) → HasRow w rows (blob sbid unit xs) → (b : Bool) → any_named (with_less xs ks) ≡ b
              → Some value ≡ cond b (Some (row_value w (blob sbid unit (with_less xs ks)))) None → IsGoodRow s after (shared_key sbid) value
          by unit xs was false p e = absurd cc
          by unit xs was true p e = record {
            row = blob sbid unit (with_less xs ks);
            fits = fits_less unit xs was;
            key_is = refl;
            value_is = same_Some value (row_value w (blob sbid unit (with_less xs ks))) e;
            in_place = blob_placed unit (with_less xs ks) (row_stands unit xs was p);
          }

  -- what a slot then was before: at the same unit, with a count that is more by the pages that left it
  pub record SlotWas (index unit : ℕ) (y : Slot) : Type 0 where
    pub was : Slot
    pub has_slot : HasSlot w rows sbid index unit was
    pub count : y.count ≡ was.count - times_in ks index
    pub csum : 0 < y.count → y.csum ≡ was.csum

  pub slot_was : (index unit : ℕ) (y : Slot) → HasSlot w after sbid index unit y → SlotWas index unit y
  slot_was index unit y has =
      let was = blob_was has.first has.slots has.has_blob in
      let at = sym (ap (λ zs. slice_get zs index) was.less ∙ less_at was.slots ks index) ∙ has.there in
      by (slice_get was.slots index) refl at
    where
      by : (x : Option Slot) → slice_get (blob_was has.first has.slots has.has_blob).slots index ≡ x
          → option_map (lessened (times_in ks index)) x ≡ Some y → SlotWas index unit y
      by None p e = absurd cc
      by (Some x) p e =
          let n = times_in ks index in
          let was = blob_was has.first has.slots has.has_blob in
          let same : lessened n x ≡ y = same_Some (lessened n x) y e in
          let count : y.count ≡ x.count - n = ap (λ z. z.count) (sym same) ∙ lessened_count n x in
          record {
            was = x;
            has_slot = record { first = has.first; slots = was.slots; has_blob = was.has_blob; there = p; at_is = has.at_is };
            count = count;
            csum = λ some. ap (λ z. z.csum) (sym same) ∙ lessened_csum n x (omega (arith, some, count));
          }

  -- a slot that pages still name is there with its checksum
  pub slot_kept : (index unit : ℕ) (x : Slot) → HasSlot w rows sbid index unit x → times_in ks index < x.count
      → HasSlot w after sbid index unit (record { csum = x.csum; count = x.count - times_in ks index })
  slot_kept index unit x has some =
      let n = times_in ks index in
      let y : Slot = record { csum = x.csum; count = x.count - n } in
      let at : slice_get (with_less has.slots ks) index ≡ Some y =
      less_at has.slots ks index ∙ ap (option_map (lessened n)) has.there ∙ ap Some (lessened_is n x some) in
      record {
        first = has.first;
        slots = with_less has.slots ks;
        has_blob = row_stands has.first has.slots has.has_blob (slot_named (with_less has.slots ks) index y at (omega (arith, some)));
        there = at;
        at_is = has.at_is;
      }

  -- so the blob is there
  pub blob_kept : (index unit : ℕ) (x : Slot) → HasSlot w rows sbid index unit x → times_in ks index < x.count → HasKey after (shared_key sbid)
  blob_kept index unit x has some = ap is_some (slot_kept index unit x has some).has_blob.stands

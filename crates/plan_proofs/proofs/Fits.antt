-- The operations of a difference have spellings.
use Rattle.std.proofs.Common.{◌≡◌, inl, inr, ℕ, ◌+◌, ◌<◌, ◌≤◌, ◌^◌, Bool, true, false, cond, List, [], ◌∷◌, length, Option, Some, None, is_some, refl, sym, ap, subst, ◌∙◌, arith}
use Rattle.std.specs.Option.{option_map}
use Rattle.std.specs.List.{AllByRecursion}
use Rattle.std.specs.Int.{w64, to_le_bytes}
use Rattle.std.specs.FinMap as finite
use Rattle.std.proofs.lemmas.Option.{same_Some}
use Rattle.meta_rows.specs.Prelude.{Rows, rows_after, key_of, IsKey, FitsRowOp, AllFit}
use Rattle.meta_rows.specs.declared.row_op.RowOp.{RowOp}
use Rattle.meta_rows.specs.declared.row_op.RowOp.TheVariants.{Set, Drop, Flip}
use Rattle.meta_log.specs.declared.slot.Super.{Super}
use Rattle.meta_log.specs.Prelude.{width_of}
use Rattle.unit_fields.specs.Prelude.{IsName}
use Rattle.row_format.specs.Prelude.{Extent, shard_key, shared_key, Slot, blob, row_value}
use Rattle.row_reading.specs.Slots.{slots_size}
use Rattle.store_image.specs.Prelude.{HasRow}
use Rattle.store_image.proofs.Prelude.{blob_there}
use Rattle.extent_shards.specs.Prelude.{shard_bytes, shards_of, shard_limit, shard_at, IsBounded}
use Rattle.extent_shards.proofs.Joins.{shards_bounded}
use Rattle.extent_shards.proofs.Openings.{each_is, at_is_one}
use Rattle.plan_drafts.specs.Prelude.{Held, KeysAscend, Changes, Layout, or_empty, AreCut, GetsShards, stay, cut, size_at, extents_at, ValueKey, header, attribute, pair, IsKeyOfColl, IsKeyOfDraft, IsKeyOfSlot, indexes_of, CollDraft}
use Rattle.plan_proofs.proofs.AfterObject.{has_shard}
use Rattle.plan_proofs.proofs.Difference.{SaysAfter, said_after}
use Rattle.plan_proofs.proofs.Drafted.{AreDrafted}
use Rattle.plan_proofs.proofs.DraftRows.{now, fit, drafted_good}
use Rattle.plan_proofs.proofs.BlobRows.{WasBlob, blob_was, less_length}
use Rattle.plan_proofs.proofs.Lengths.{onode_fits, shard_fits, value_fits, coll_fits, shared_fits, shard_short, length-blob, blob_short}
use Rattle.plan_proofs.proofs.ValuesWritten.{FitsValue}

module _ (s : Super) (rows : Rows) (ops : List RowOp) (c : List ℕ) (layouts : List ℕ → Option Layout) (units : List ℕ) (held : Held) (y : CollDraft)
    (a : AreDrafted s rows (rows_after rows ops) c layouts units held y) where
  abbrev after : Rows
  after = rows_after rows ops

  abbrev layout_now : List ℕ → Option Layout
  layout_now o = now s rows after c layouts units held y a o

  own_key_fits : (key : List ℕ) → IsKeyOfColl c key → IsKey key
  own_key_fits key (inl e) = subst IsKey (sym e) (coll_fits c a.coll)
  own_key_fits key (inr (o, name, inl (inl e))) = subst IsKey (sym e) (onode_fits c o a.coll name)
  own_key_fits key (inr (o, name, inl (inr p))) = subst IsKey (sym p.2) (shard_fits c o a.coll name p.0)
  own_key_fits key (inr (o, name, inr its)) = subst IsKey (sym its.is) (value_fits c o a.coll name its.of its.named)

  pub key_fits : (key : List ℕ) → IsKeyOfDraft c y key → IsKey key
  key_fits key (inl mine) = own_key_fits key mine
  key_fits key (inr of) = subst IsKey (sym of.is) (shared_fits of.sbid)

  abbrev pub IsShort : List ℕ → Type 0
  IsShort value = length value ≤ 65535

  -- a shard of a map that is cut anew
  module _ (o : List ℕ) (name : IsName o) (page : ℕ) (lt : page < 2 ^ 32) (value : List ℕ)
      (is : finite.get after (shard_key c o page) ≡ Some value) where
    abbrev shards_now : List (List Extent)
    shards_now = shards_of (width_of s) (Some shard_limit) (extents_at (layout_now o))

    pub cut_at : AreCut (width_of s) after c o (or_empty (layout_now o)).pages
        → (es : List Extent) × (shard_at shards_now page ≡ Some es) × (shard_bytes (width_of s) es ≡ value)
    cut_at are = by (shard_at shards_now page) refl
      where
        by : (z : Option (List Extent)) → shard_at shards_now page ≡ z
            → (es : List Extent) × (shard_at shards_now page ≡ Some es) × (shard_bytes (width_of s) es ≡ value)
        by None p = absurd (let t = sym is ∙ are page lt ∙ ap (option_map (shard_bytes (width_of s))) p in cc)
        by (Some es) p =
            let t : Some (shard_bytes (width_of s) es) ≡ Some value = sym (are page lt ∙ ap (option_map (shard_bytes (width_of s))) p) ∙ is in
            (es, p, cc)

    cut_short : AreCut (width_of s) after c o (or_empty (layout_now o)).pages → IsShort value
    cut_short are =
        let found = cut_at are in
        let one = at_is_one shards_now page found.0 found.1 in
        let has = has_shard s after c o (or_empty (layout_now o)).pages a.coll name (fit s rows after c layouts units held y a o name) are page lt found.0 found.1 in
        let bounded = each_is (IsBounded (width_of s) (Some shard_limit)) shards_now (shards_bounded (width_of s) (Some shard_limit) (extents_at (layout_now o)))
        found.0 one.0 in
        omega (arith, ap length found.2, shard_short (width_of s) found.0 has.fits.fit bounded)

  -- what stands under a key after the operations, and didn't before, is short
  own_value_short : (key value : List ℕ) → IsKeyOfColl c key → finite.get after key ≡ Some value → ¬ (finite.get rows key ≡ Some value) → IsShort value
  own_value_short key value (inl e) is not = by y.there (sym is ∙ ap (finite.get after) e ∙ a.gets.coll)
    where
      by : (b : Bool) → Some value ≡ cond b (Some []) None → IsShort value
      by true p = subst IsShort (let t : [] ≡ value = cc in t) (omega arith)
      by false p = absurd cc
  own_value_short key value (inr (o, name, inl (inl e))) is not =
      sized (size_at (layout_now o)) (sym is ∙ ap (finite.get after) e ∙ (a.gets.objects o name).onode)
    where
      sized : (z : Option ℕ) → Some value ≡ option_map (to_le_bytes w64) z → IsShort value
      sized None p = absurd cc
      sized (Some n) p = subst IsShort (let t : to_le_bytes w64 n ≡ value = cc in t) (omega arith)
  own_value_short key value (inr (o, name, inl (inr p))) is not = by (a.gets.objects o name).shards
    where
      by : GetsShards (width_of s) rows after c o (or_empty (layouts o)).pages (or_empty (layout_now o)).pages → IsShort value
      by (stay eq same) = absurd (not (ap (finite.get rows) p.2 ∙ sym (same p.0 p.1) ∙ sym (ap (finite.get after) p.2) ∙ is))
      by (cut apart are) = cut_short o name p.0 p.1 value (sym (ap (finite.get after) p.2) ∙ is) are
  own_value_short key value (inr (o, name, inr its)) is not =
      let f = (a.reached.values o its.of value name its.named (sym (a.gets.values o its.of name its.named) ∙ ap (finite.get after) (sym its.is) ∙ is)).0 in
      by its.of f
    where
      by : (k : ValueKey) → FitsValue k value → IsShort value
      by header f = omega (arith, f.1)
      by (attribute n) f = omega (arith, f)
      by (pair q) f = omega (arith, f)

  -- a blob's row that is set was there, as long
  pub record WasAsLong (key value : List ℕ) : Type 0 where
    pub old : List ℕ
    pub stood : finite.get rows key ≡ Some old
    pub long : length value ≡ length old
    pub short : IsShort value

  pub blob_long : (key value : List ℕ) → IsKeyOfSlot y.unshared key → finite.get after key ≡ Some value → WasAsLong key value
  blob_long key value of is = subst (λ k. WasAsLong k value) (sym of.is) (record {
    old = row_value (width_of s) (blob of.sbid there.0 was.slots);
    stood = was.has_blob.stands;
    long = ap length value_is ∙ length-blob (width_of s) of.sbid there.0 there.1.0
        ∙ ap (λ n. 6 + slots_size (width_of s) n) (ap length was.less ∙ less_length was.slots (indexes_of of.sbid y.unshared))
        ∙ sym (length-blob (width_of s) of.sbid there.0 was.slots);
    short = subst IsShort (sym value_is) (blob_short (width_of s) of.sbid there.0 there.1.0 there.1.1.fits);
  })
    where
      under : finite.get after (shared_key of.sbid) ≡ Some value
      under = ap (finite.get after) (sym of.is) ∙ is

      there : (unit : ℕ) × ((xs : List Slot) × HasRow (width_of s) after (blob of.sbid unit xs))
      there = blob_there s after of.sbid of.small (drafted_good s rows after c layouts units held y a) (finite.get after (shared_key of.sbid)) refl
          (ap is_some under)

      was : WasBlob s rows after a.good of.sbid of.small (indexes_of of.sbid y.unshared) (a.gets.blobs of.sbid of.small) there.0 there.1.0
      was = blob_was s rows after a.good of.sbid of.small (indexes_of of.sbid y.unshared) (a.gets.blobs of.sbid of.small) there.0 there.1.0 there.1.1

      value_is : value ≡ row_value (width_of s) (blob of.sbid there.0 there.1.0)
      value_is = same_Some value (row_value (width_of s) (blob of.sbid there.0 there.1.0)) (sym under ∙ there.1.1.stands)

  pub value_is_short : (key value : List ℕ) → IsKeyOfDraft c y key → finite.get after key ≡ Some value → ¬ (finite.get rows key ≡ Some value) → IsShort value
  value_is_short key value (inl mine) is not = own_value_short key value mine is not
  value_is_short key value (inr of) is not = (blob_long key value of is).short

  -- each operation
  op_fits : (op : RowOp) → IsKeyOfDraft c y (key_of op) → Changes rows op → SaysAfter after op → FitsRowOp op
  op_fits (Set key value) its changes said = (key_fits key its, omega (arith, value_is_short key value its said changes))
  op_fits (Drop key) its changes said = key_fits key its
  op_fits (Flip key mask) its changes said = absurd changes

  all_fit : (xs : List RowOp) → AllByRecursion (λ op. IsKeyOfDraft c y (key_of op)) xs → AllByRecursion (Changes rows) xs → AllByRecursion (SaysAfter after) xs
      → AllFit xs
  all_fit [] keys changes said = tt
  all_fit (op ∷ xs) keys changes said = (op_fits op keys.0 changes.0 said.0, all_fit xs keys.1 changes.1 said.1)

  pub difference_fits : KeysAscend ops → AllByRecursion (Changes rows) ops → AllByRecursion (λ op. IsKeyOfDraft c y (key_of op)) ops → AllFit ops
  difference_fits order changes keys = all_fit ops keys changes (said_after rows ops order)

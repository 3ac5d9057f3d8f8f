-- The pages of the row that a key and a value spell.
use Rattle.std.proofs.Common.{◌≡◌, ℕ, zero, suc, ◌+◌, ◌<◌, List, [], ◌∷◌, length, true, false, inl, inr, Option, Some, Result, Ok, Err, refl, sym, ap, subst, arith}
use Rattle.std.specs.FinMap as map
use Rattle.std.specs.List.{AllByRecursion}
use Rattle.std.specs.Prelude.{OnOk, MatchOption, slice_get}
use Rattle.unit_fields.specs.declared.width.Width.{Width}
use Rattle.meta_rows.specs.Prelude.{Rows}
use Rattle.meta_log.specs.declared.slot.Super.{Super}
use Rattle.meta_log.specs.Prelude.{width_of}
use Rattle.row_format.specs.Prelude.{shared_key, Body, private, shared, Extent, FitsBody, FitsExtent, Slot, slot, blob}
use Rattle.store_image.specs.Prelude.{HasRow, HasShard, PageUnit, IsOnData, HasSlots, IsShardInPlace, IsBlobInPlace, NoBadRow}
use Rattle.store_image.proofs.Prelude.{in_place, blob_there}
use Rattle.plan_rows.proofs.PlaceUnits.{unit_is}
use Rattle.onode_codec.specs.Reading.{SpellExtents}
use Rattle.row_format.specs.Row as format
use Rattle.row_format.proofs.Prelude.{is_shard_or_none}
use Rattle.onode_codec.proofs.Again.{same_extents}
use Rattle.row_check.specs.Owned.{TellsShard}
use Rattle.row_check.proofs.MarkedRows.{spelled_shard}
use Rattle.findings.specs.declared.finding.Finding.{Finding}
use Rattle.fsck_check.specs.Sums.{shard_places, BodyInside, AllInside, SpellsInside, AddsSums, AddsRowSums}
use Rattle.fsck_check.proofs.Adding.{adds_none}

-- the extents that a shard's value spells stand inside
pub shard_inside : (w : Width) (rows : Rows) (key value : List ℕ) (units : ℕ) (es : List Extent) → SpellsInside w rows key value units
    → TellsShard w key value true → SpellExtents w value es → AllInside w rows units es
shard_inside w rows key value units es within told spelled =
    subst (AllInside w rows units)
    (same_extents w value (format.shard_in within.row).extents es
    (spelled_shard w key value within.row ((told within.row within.spells).0 refl) within.spells) spelled)
    within.inside

module _ (w : Width) (rows : Rows) (held : ℕ → List ℕ → Type 0) (key value : List ℕ) where
  pub shard_added : (es : List Extent) (x y : List Finding) → TellsShard w key value true → SpellExtents w value es
      → AddsSums held (shard_places w rows es) x y → AddsRowSums w rows held key value x y
  shard_added es x y told spelled adds row s =
      let same = same_extents w value es _ spelled (spelled_shard w key value row ((told row s).0 refl) s) in
      subst (λ (l : List Extent). AddsSums held (shard_places w rows l) x y) same adds

  pub no_shard_added : (x : List Finding) → TellsShard w key value false → AddsRowSums w rows held key value x x
  no_shard_added x told row s = elim (is_shard_or_none row) [
    | inl is ↦ absurd (let never = (told row s).1 is in cc)
    | inr none ↦ subst (λ (y : format.ShardRow). AddsSums held (shard_places w rows y.extents) x x) (sym none) (adds_none held x)
  ]

-- ---- good rows stand inside

slot_at : (xs : List Slot) (k : ℕ) → k < length xs → (x : Slot) × (slice_get xs k ≡ Some x)
slot_at [] k lt = absurd (omega arith)
slot_at (x ∷ xs) zero lt = (x, refl)
slot_at (x ∷ xs) (suc k) lt = slot_at xs k (omega (arith, lt))

body_inside : (s : Super) (rows : Rows) → NoBadRow s rows → (c o : List ℕ) (page : ℕ) (es : List Extent) → HasShard (width_of s) rows c o page es → (e : Extent)
    → FitsExtent (width_of s) e → IsOnData s e.body → HasSlots (width_of s) rows c e.body → BodyInside (width_of s) rows s.units e.body
body_inside s rows good c o page es has e fits on slots = by e.body fits.body on slots
  where
    by : (b : Body) → FitsBody (width_of s) b → IsOnData s b → HasSlots (width_of s) rows c b → BodyInside (width_of s) rows s.units b
    by (private unit csums) fit on held = on.1
    by (shared sbid first count) fit on_data held =
        let row = blob_there s rows sbid fit.0 good (map.get rows (shared_key sbid)) refl held.0 in
        let long = held.1 row.0 row.1.0 row.1.1 in
        let place : IsBlobInPlace s sbid row.0 row.1.0 = in_place s rows (blob sbid row.0 row.1.0) good row.1.1 in (
          omega (arith, long, row.1.1.fits.few),
          λ i lt.
              let found = slot_at row.1.0 (first + i) (omega (arith, lt, long)) in
              let at : PageUnit = record { unit = row.0 + (first + i); csum = found.0.csum } in
              let is = unit_is (width_of s) rows (slot sbid (first + i)) at
              (found.0, (record { first = row.0; slots = row.1.0; has_blob = row.1.1; there = found.1; at_is = refl }, refl)) in
              omega (arith, ap (λ (u : PageUnit). u.unit) is, place.on_data.1, long, lt),
        )

pub row_inside : (s : Super) (rows : Rows) → NoBadRow s rows → (row : format.Row) → HasRow (width_of s) rows row
    → AllInside (width_of s) rows s.units (format.shard_in row).extents
row_inside s rows good row has = elim (is_shard_or_none row) [
  | inl is ↦
      let sh = format.shard_in row in
      let there : HasShard (width_of s) rows sh.coll sh.object sh.page sh.extents = subst (HasRow (width_of s) rows) is has in
      let place : IsShardInPlace s rows sh.coll sh.object sh.page sh.extents = in_place s rows (format.as_row sh) good there in
      each sh.coll sh.object sh.page sh.extents there sh.extents there.fits.fit place.on_data place.slots
  | inr none ↦ subst (λ (x : format.ShardRow). AllInside (width_of s) rows s.units x.extents) (sym none) tt
]
  where
    each : (c o : List ℕ) (page : ℕ) (es : List Extent) → HasShard (width_of s) rows c o page es → (some : List Extent)
        → AllByRecursion (FitsExtent (width_of s)) some → AllByRecursion (λ e. IsOnData s e.body) some
        → AllByRecursion (λ e. HasSlots (width_of s) rows c e.body) some → AllInside (width_of s) rows s.units some
    each c o page es there [] fit on slots = tt
    each c o page es there (e ∷ some) fit on slots =
        (body_inside s rows good c o page es there e fit.0 on.0 slots.0, each c o page es there some fit.1 on.1 slots.1)

pub on_ok : {A E : Type 0} (r : Result A E) (P Q : Type 0) → (P → Q) → OnOk r P → OnOk r Q
on_ok (Ok x) P Q more p = more p
on_ok (Err e) P Q more p = tt

-- what holds of the value that was found
pub of_some : {A : Type 0} (N : Type 0) (P : A → Type 0) (o : Option A) (x : A) → o ≡ Some x → MatchOption o N P → P x
of_some N P o x is m = subst (λ q. MatchOption q N P) is m

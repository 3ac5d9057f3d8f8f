-- The units on which pages stand: on good rows each page that has a place stands on one, and where counts are exact these are the owned ones.
use Rattle.std.proofs.Common.{◌≡◌, ◌↔◌, ℕ, zero, suc, ◌+◌, ◌-◌, ◌<◌, ◌≤◌, ◌^◌, true, false, cond, List, [], ◌∷◌, length, Option, Some, None, refl, sym, ap, subst, ◌∙◌, arith}
use Rattle.std.specs.Prelude.{nat_le, nat_lt, ◌&&◌, slice_get, IsSome}
use Rattle.std.specs.List.{AllByRecursion}
use Rattle.std.specs.Int.{w32, from_le_bytes}
use Rattle.std.specs.FinMap as map
use Rattle.std.proofs.lemmas.Bool.{ltb-true, leb-true}
use Rattle.unit_fields.specs.declared.width.Width.{Width}
use Rattle.meta_rows.specs.Prelude.{Rows}
use Rattle.meta_log.specs.declared.slot.Super.{Super}
use Rattle.meta_log.specs.Prelude.{width_of}
use Rattle.row_format.specs.Prelude.{shared_key, a_shared_blob, Body, private, shared, Extent, page_end, FitsBody, FitsExtent, Place, own, slot, place_in, place_of, Slot, slots_read, Row, shard, blob, row_value, FitsRow}
use Rattle.row_format.proofs.Prelude.{shared_again, reads_row, same_row}
use Rattle.store_image.specs.Prelude.{HasKey, HasRow, PageUnit, IsPageAt, HasSlot, StandsOn, IsPageOn, HasPage, HasSlots, NoBadRow, page_of, slot_of, Owner, Owns, IsOwned, CountsAreExact, IsSeen, AreObjectBytes}
use Rattle.store_image.proofs.Counting.{some_page, some_namer}
use Rattle.store_image.proofs.PageMap.{in_place}

-- ---- one unit

one_blob : (w : Width) (rows : Rows) (sbid f g : ℕ) (xs ys : List Slot) → HasRow w rows (blob sbid f xs) → HasRow w rows (blob sbid g ys)
    → (f ≡ g) × (xs ≡ ys)
one_blob w rows sbid f g xs ys a b =
    let both = sym a.stands ∙ b.stands in
    let value : row_value w (blob sbid f xs) ≡ row_value w (blob sbid g ys) = cc in
    let is = same_row w (blob sbid f xs) (blob sbid g ys) a.fits b.fits refl value in
    (ap first is, ap slots is)
  where
    first : Row → ℕ
    first (blob s n zs) = n
    first row = 0

    slots : Row → List Slot
    slots (blob s n zs) = zs
    slots row = []

pub one_unit : (w : Width) (rows : Rows) (place : Place) (a b : PageUnit) → StandsOn w rows place a → StandsOn w rows place b → a ≡ b
one_unit w rows (own unit csum) a b p q = p ∙ sym q
one_unit w rows (slot sbid index) a b (x, (p, pc)) (y, (q, qc)) =
    let blobs = one_blob w rows sbid p.first q.first p.slots q.slots p.has_blob q.has_blob in
    let same : Some x ≡ Some y = sym p.there ∙ ap (λ zs. slice_get zs index) blobs.1 ∙ q.there in
    let slots : x ≡ y = cc in
    let units : a.unit ≡ b.unit = p.at_is ∙ ap (λ n. n + index) blobs.0 ∙ sym q.at_is in
    let sums : a.csum ≡ b.csum = sym pc ∙ ap (λ z. z.csum) slots ∙ qc in
    λ i. record { unit = units i; csum = sums i }

-- a slot is where it was while its blob's row stays
pub slot_still : (w : Width) (rows later : Rows) (sbid index at : ℕ) (x : Slot) → map.get later (shared_key sbid) ≡ map.get rows (shared_key sbid)
    → HasSlot w rows sbid index at x → HasSlot w later sbid index at x
slot_still w rows later sbid index at x same has = record {
  first = has.first;
  slots = has.slots;
  has_blob = record { fits = has.has_blob.fits; stands = same ∙ has.has_blob.stands };
  there = has.there;
  at_is = has.at_is;
}

-- so is a place while the blobs' rows stay
pub stands_still : (w : Width) (rows later : Rows) (place : Place) (on : PageUnit)
    → ((sbid : ℕ) → map.get later (shared_key sbid) ≡ map.get rows (shared_key sbid)) → StandsOn w rows place on → StandsOn w later place on
stands_still w rows later (own unit csum) on same is = is
stands_still w rows later (slot sbid index) on same (x, (has, kept)) = (x, (slot_still w rows later sbid index on.unit x (same sbid) has, kept))

-- a page at a unit of its own stands there
pub on_own : (w : Width) (rows : Rows) (c o : List ℕ) (page unit csum : ℕ) → IsPageAt w rows c o page (own unit csum)
    → IsPageOn w rows c o page (record { unit = unit; csum = csum })
on_own w rows c o page unit csum at = record { place = own unit csum; at = at; stands = refl }

-- ---- some unit

-- the slot is one of an extent that its blob has
abbrev IsOfBlob : Width → Rows → ℕ → ℕ → Type 0
IsOfBlob w rows sbid index = (sbid < 2 ^ 64) × HasKey rows (shared_key sbid)
    × ((unit : ℕ) (xs : List Slot) → HasRow w rows (blob sbid unit xs) → index < length xs)

slot_there : (w : Width) (rows : Rows) (c : List ℕ) (es : List Extent) (page sbid index : ℕ) → AllByRecursion (λ e. HasSlots w rows c e.body) es
    → AllByRecursion (FitsExtent w) es → place_of es page ≡ Some (slot sbid index) → IsOfBlob w rows sbid index
slot_there w rows c [] page sbid index all fit is = absurd cc
slot_there w rows c (e ∷ es) page sbid index all fit is =
    elim (nat_le e.first page) as (λ a. nat_le e.first page ≡ a
    → cond (a && nat_lt page (page_end e)) (Some (place_in e.body (page - e.first))) (place_of es page) ≡ Some (slot sbid index)
    → IsOfBlob w rows sbid index) [
      | false ↦ λ p h. slot_there w rows c es page sbid index all.1 fit.1 h
      | true ↦ λ p h. elim (nat_lt page (page_end e)) as (λ b. nat_lt page (page_end e) ≡ b
          → cond b (Some (place_in e.body (page - e.first))) (place_of es page) ≡ Some (slot sbid index) → IsOfBlob w rows sbid index) [
            | false ↦ λ q k. slot_there w rows c es page sbid index all.1 fit.1 k
            | true ↦ λ q k. here e.first e.body all.0 fit.0.body (leb-true _ _ p) (ltb-true _ _ q) k
          ] refl h
    ] refl is
  where
    numbers_of : Place → ℕ × ℕ
    numbers_of (own unit csum) = (0, 0)
    numbers_of (slot s n) = (s, n)

    here : (first : ℕ) (body : Body) → HasSlots w rows c body → FitsBody w body → first ≤ page → page < page_end (record { first = first; body = body })
        → Some (place_in body (page - first)) ≡ Some (slot sbid index) → IsOfBlob w rows sbid index
    here first (private unit csums) has fits le lt same = absurd cc
    here first (shared s n count) has fits le lt same =
        let places : slot s (n + (page - first)) ≡ slot sbid index = cc in
        let numbers = ap numbers_of places in
        let sbids : s ≡ sbid = ap (λ p. p.0) numbers in
        let indices : n + (page - first) ≡ index = ap (λ p. p.1) numbers in (
          omega (arith, fits.0, sbids),
          subst (λ k. HasKey rows (shared_key k)) sbids has.0,
          λ unit xs row. omega (arith, has.1 unit xs (subst (λ k. HasRow w rows (blob k unit xs)) (sym sbids) row), indices, le, lt),
        )

-- a good row under a blob's key is a blob
pub blob_there : (s : Super) (rows : Rows) (sbid : ℕ) → sbid < 2 ^ 64 → NoBadRow s rows → (value : Option (List ℕ))
    → map.get rows (shared_key sbid) ≡ value → IsSome value → (unit : ℕ) × ((xs : List Slot) × HasRow (width_of s) rows (blob sbid unit xs))
blob_there s rows sbid low good None is some = absurd cc
blob_there s rows sbid low good (Some value) is some =
    let w = width_of s in
    let found = good (shared_key sbid) value is in
    let same : found.row ≡ blob sbid (from_le_bytes w32 value) (slots_read w value) =
    reads_row w found.row (blob sbid (from_le_bytes w32 value) (slots_read w value)) (shared_key sbid) value (a_shared_blob sbid)
    found.fits found.key_is found.value_is (shared_again sbid low) refl in (
      from_le_bytes w32 value,
      (
        slots_read w value,
        record {
          fits = subst (FitsRow w) same found.fits;
          stands = is ∙ ap Some (found.value_is ∙ ap (row_value w) same);
        },
      ),
    )

found_slot : (xs : List Slot) (index : ℕ) → index < length xs → (x : Slot) × (slice_get xs index ≡ Some x)
found_slot [] index lt = absurd (omega (arith, lt))
found_slot (x ∷ xs) zero lt = (x, refl)
found_slot (x ∷ xs) (suc n) lt = found_slot xs n (omega (arith, lt))

module _ (s : Super) (rows : Rows) (good : NoBadRow s rows) where
  at_slot : (sbid index : ℕ) → IsOfBlob (width_of s) rows sbid index → (on : PageUnit) × StandsOn (width_of s) rows (slot sbid index) on
  at_slot sbid index of =
      let there = blob_there s rows sbid of.0 good (map.get rows (shared_key sbid)) refl of.1 in
      let found = found_slot there.1.0 index (of.2 there.0 there.1.0 there.1.1) in
      let on : PageUnit = record { unit = there.0 + index; csum = found.0.csum } in
      (on, (found.0, (record { first = there.0; slots = there.1.0; has_blob = there.1.1; there = found.1; at_is = refl }, refl)))

  pub some_unit : (c o : List ℕ) (page : ℕ) (place : Place) → IsPageAt (width_of s) rows c o page place
      → (on : PageUnit) × IsPageOn (width_of s) rows c o page on
  some_unit c o page (own unit csum) at = (record { unit = unit; csum = csum }, on_own (width_of s) rows c o page unit csum at)
  some_unit c o page (slot sbid index) at =
      let placed = in_place s rows (shard c o at.first at.extents) good at.has_shard in
      let there = slot_there (width_of s) rows c at.extents page sbid index placed.slots at.has_shard.fits.fit at.has_page in
      let found = at_slot sbid index there in
      (found.0, record { place = slot sbid index; at = at; stands = found.1 })

-- ---- owners

module _ (w : Width) (rows : Rows) (counts : CountsAreExact w rows) where
  pub page_owned : (unit : ℕ) → HasPage w rows unit → IsOwned w rows unit
  page_owned unit has = owner has.is_on.place has.is_on.at has.is_on.stands
    where
      owner : (place : Place) → IsPageAt w rows has.coll has.object has.page place → StandsOn w rows place has.on → IsOwned w rows unit
      owner (own u csum) at stands = (
        page_of has.coll has.object has.page,
        (
          csum,
          subst (λ v. IsPageAt w rows has.coll has.object has.page (own v csum)) (sym (ap (λ x. x.unit) stands) ∙ has.is_unit) at,
        ),
      )
      owner (slot sbid index) at (x, (found, sum)) =
          let counted = counts sbid index has.on.unit x found in
          let inside = (counted.namers.each (record { coll = has.coll; object = has.object; page = has.page })).1 at in (
            slot_of sbid index,
            (
              x,
              (
                subst (λ v. HasSlot w rows sbid index v x) has.is_unit found,
                omega (arith, some_page counted.pages _ inside, counted.count_is),
              ),
            ),
          )

  pub owned_page : (owner : Owner) (unit : ℕ) → Owns w rows owner unit → HasPage w rows unit
  owned_page (page_of c o page) unit owns = record {
    coll = c;
    object = o;
    page = page;
    on = record { unit = unit; csum = owns.0 };
    is_on = on_own w rows c o page unit owns.0 owns.1;
    is_unit = refl;
  }
  owned_page (slot_of sbid index) unit (x, (has, some)) =
      let counted = counts sbid index unit x has in
      let namer = some_namer counted.pages (omega (arith, some, counted.count_is)) in
      let p = namer.0 in
      record {
        coll = p.coll;
        object = p.object;
        page = p.page;
        on = record { unit = unit; csum = x.csum };
        is_on = record { place = slot sbid index; at = (counted.namers.each p).0 namer.1; stands = (x, (has, refl)) };
        is_unit = refl;
      }

  pub pages_are_owned : (unit : ℕ) → HasPage w rows unit ↔ IsOwned w rows unit
  pages_are_owned unit = (page_owned unit, λ owned. owned_page owned.0 unit owned.1)

-- what the pages stand on decides the bytes
pub bytes_alike : (w : Width) (at : ℕ → List ℕ) (rows later : Rows) (c o d u bytes : List ℕ)
    → ((page : ℕ) (on : PageUnit) → IsPageOn w later d u page on ↔ IsPageOn w rows c o page on)
    → ((unit : ℕ) (b : List ℕ) → IsSeen at rows unit b → IsSeen at later unit b)
    → AreObjectBytes w at rows c o bytes → AreObjectBytes w at later d u bytes
bytes_alike w at rows later c o d u bytes same seen are = record {
  mapped = λ page on is.
      let was = are.mapped page on ((same page on).0 is) in
      record { seen = seen on.unit _ was.seen; kept = was.kept };
  holes = λ page hole. are.holes page (λ on is. hole on ((same page on).1 is));
}

-- On good rows the pages of objects stand on data units.
use Rattle.std.proofs.Common.{◌≡◌, inl, inr, ℕ, zero, suc, ◌-◌, ◌<◌, Bool, true, false, cond, List, [], ◌∷◌, length, Some, sym, ap, subst, ◌∙◌, arith}
use Rattle.std.specs.Prelude.{nat_le, nat_lt, ◌&&◌, slice_get}
use Rattle.std.specs.List.{AllByRecursion}
use Rattle.std.proofs.lemmas.Bool.{cases_Bool, and_parts, leb-true, ltb-true}
use Rattle.std.proofs.lemmas.Option.{same_Some}
use Rattle.meta_rows.specs.Prelude.{Rows}
use Rattle.meta_log.specs.declared.slot.Super.{Super}
use Rattle.meta_log.specs.Prelude.{width_of, data_unit}
use Rattle.row_format.specs.Prelude.{Extent, Body, private, shared, page_count, page_end, Place, own, slot, place_in, place_of, Slot, shard, blob}
use Rattle.store_image.specs.Prelude.{PageUnit, IsPageAt, HasSlot, StandsOn, HasPage, IsOnData, NoBadRow, IsShardInPlace, IsBlobInPlace, Owner, page_of, slot_of, Owns, IsDataUnit, IsOwned}
use Rattle.store_image.proofs.Prelude.{in_place}
use Rattle.blob_map.specs.Prelude.{StandsWithin}

body_on_data : (s : Super) (body : Body) (i : ℕ) → IsOnData s body → i < page_count body → StandsWithin (data_unit s) s.units (place_in body i)
body_on_data s (private unit csums) i on below = (omega (arith, on.0), omega (arith, on.1, below))
body_on_data s (shared sbid first count) i on below = tt

-- a page of extents on data units
place_on_data : (s : Super) (es : List Extent) (page : ℕ) (place : Place) → AllByRecursion (λ e. IsOnData s e.body) es
    → place_of es page ≡ Some place → StandsWithin (data_unit s) s.units place
place_on_data s [] page place all is = absurd cc
place_on_data s (e ∷ es) page place all is = elim (cases_Bool (nat_le e.first page && nat_lt page (page_end e))) [
  | inl here ↦
      let tests = and_parts (nat_le e.first page) (nat_lt page (page_end e)) here in
      let within : page - e.first < page_count e.body = omega (arith, leb-true _ _ tests.0, ltb-true _ _ tests.1) in
      let same : place_in e.body (page - e.first) ≡ place = same_Some (place_in e.body (page - e.first)) place (sym (by_test true here) ∙ is) in
      subst (StandsWithin (data_unit s) s.units) same (body_on_data s e.body (page - e.first) all.0 within)
  | inr there ↦ place_on_data s es page place all.1 (sym (by_test false there) ∙ is)
]
  where
    by_test : (b : Bool) → (nat_le e.first page && nat_lt page (page_end e)) ≡ b
        → place_of (e ∷ es) page ≡ cond b (Some (place_in e.body (page - e.first))) (place_of es page)
    by_test b test = ap (λ t. cond t (Some (place_in e.body (page - e.first))) (place_of es page)) test

-- a slot that is found is one of them
pub slot_within : (xs : List Slot) (index : ℕ) (x : Slot) → slice_get xs index ≡ Some x → index < length xs
slot_within [] index x is = absurd cc
slot_within (y ∷ ys) zero x is = omega arith
slot_within (y ∷ ys) (suc n) x is = omega (arith, slot_within ys n x is)

slot_on_data : (s : Super) (rows : Rows) → NoBadRow s rows → (sbid index unit : ℕ) (x : Slot) → HasSlot (width_of s) rows sbid index unit x → IsDataUnit s unit
slot_on_data s rows good sbid index unit x has =
    let stands : IsBlobInPlace s sbid has.first has.slots = in_place s rows (blob sbid has.first has.slots) good has.has_blob in
    (omega (arith, stands.on_data.0, has.at_is), omega (arith, stands.on_data.1, has.at_is, slot_within has.slots index x has.there))

owns_data : (s : Super) (rows : Rows) → NoBadRow s rows → (owner : Owner) (unit : ℕ) → Owns (width_of s) rows owner unit → IsDataUnit s unit
owns_data s rows good (page_of c o page) unit owns =
    let is = owns.1 in
    let stands : IsShardInPlace s rows c o is.first is.extents = in_place s rows (shard c o is.first is.extents) good is.has_shard in
    place_on_data s is.extents page (own unit owns.0) stands.on_data is.has_page
owns_data s rows good (slot_of sbid index) unit owns = slot_on_data s rows good sbid index unit owns.0 owns.1.0

-- owned units are data units
pub owned_on_data : (s : Super) (rows : Rows) (unit : ℕ) → NoBadRow s rows → IsOwned (width_of s) rows unit → IsDataUnit s unit
owned_on_data s rows unit good owned = owns_data s rows good owned.0 unit owned.1

-- so is each unit on which a page stands
pub page_on_data : (s : Super) (rows : Rows) (unit : ℕ) → NoBadRow s rows → HasPage (width_of s) rows unit → IsDataUnit s unit
page_on_data s rows unit good has = subst (IsDataUnit s) has.is_unit (by has.is_on.place has.is_on.at has.is_on.stands)
  where
    by : (place : Place) → IsPageAt (width_of s) rows has.coll has.object has.page place → StandsOn (width_of s) rows place has.on → IsDataUnit s has.on.unit
    by (own u csum) at is =
        subst (IsDataUnit s) (sym (ap (λ (on : PageUnit). on.unit) is)) (owns_data s rows good (page_of has.coll has.object has.page) u (csum, at))
    by (slot sbid index) at is = slot_on_data s rows good sbid index has.on.unit is.0 is.1.0

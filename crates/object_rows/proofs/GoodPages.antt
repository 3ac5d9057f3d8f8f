-- What good rows say of a page.
use Rattle.std.proofs.Common.{◌≡◌, inl, inr, ℕ, zero, suc, ◌-◌, ◌<◌, ◌≤◌, Bool, true, false, cond, List, [], ◌∷◌, length, get_or, Some, refl, sym, ap, subst, ◌∙◌, arith}
use Rattle.std.specs.Prelude.{nat_le, nat_lt, ◌&&◌}
use Rattle.std.specs.List.{AllByRecursion}
use Rattle.std.proofs.lemmas.Bool.{cases_Bool, ltb-true, leb-true}
use Rattle.unit_fields.specs.declared.width.Width.{Width}
use Rattle.meta_rows.specs.Prelude.{Rows}
use Rattle.meta_log.specs.declared.slot.Super.{Super}
use Rattle.meta_log.specs.Prelude.{width_of, data_unit}
use Rattle.row_format.specs.Prelude.{Extent, Body, private, shared, page_count, page_end, place_in, place_of, Place, own, slot, FitsBody, FitsExtent, shard, FitsCsum}
use Rattle.store_image.specs.Prelude.{HasOnode, HasShard, IsPageAt, pages_of, IsOnData, IsShardInPlace, NoBadRow, Owner, page_of, Owns, IsDataUnit, IsOwned}
use Rattle.store_image.proofs.Prelude.{in_place}
use Rattle.blob_map.specs.Prelude.{StandsWithin}

pub all_map : {X : Type 0} (P Q : X → Type 0) → ((x : X) → P x → Q x) → (xs : List X) → AllByRecursion P xs → AllByRecursion Q xs
all_map P Q f [] all = tt
all_map P Q f (x ∷ xs) all = (f x all.0, all_map P Q f xs all.1)

-- the extent that has the page
record IsIn (P : Extent → Type 0) (page : ℕ) (place : Place) : Type 0 where
  pub extent : Extent
  pub holds : P extent
  pub from : extent.first ≤ page
  pub below : page < page_end extent
  pub is : place_in extent.body (page - extent.first) ≡ place

both_first : (a b : Bool) → (a && b) ≡ true → a ≡ true
both_first true b is = refl
both_first false b is = is

both_second : (a b : Bool) → (a && b) ≡ true → b ≡ true
both_second true b is = is
both_second false b is = cc

found_in : (P : Extent → Type 0) (es : List Extent) (page : ℕ) (place : Place) → AllByRecursion P es → place_of es page ≡ Some place → IsIn P page place
found_in P [] page place all is = absurd cc
found_in P (e ∷ es) page place all is = elim (cases_Bool (nat_le e.first page && nat_lt page (page_end e))) [
  | inl yes_here ↦
      let two : Some (place_in e.body (page - e.first)) ≡ Some place =
      sym (ap (λ b. cond b (Some (place_in e.body (page - e.first))) (place_of es page)) yes_here) ∙ is in
      record {
        extent = e;
        holds = all.0;
        from = leb-true _ _ (both_first (nat_le e.first page) (nat_lt page (page_end e)) yes_here);
        below = ltb-true _ _ (both_second (nat_le e.first page) (nat_lt page (page_end e)) yes_here);
        is = cc;
      }
  | inr not_here ↦ found_in P es page place all.1
      (sym (ap (λ b. cond b (Some (place_in e.body (page - e.first))) (place_of es page)) not_here) ∙ is)
]

data_unit_of : (s : Super) (body : Body) (i : ℕ) → IsOnData s body → i < page_count body → StandsWithin (data_unit s) s.units (place_in body i)
data_unit_of s (private unit csums) i on lt = (omega (arith, on.0), omega (arith, on.1, lt))
data_unit_of s (shared sbid first count) i on lt = tt

-- the checksum that is kept there fits its field
abbrev pub CsumFits : Width → Place → Type 0
CsumFits w (own unit csum) = FitsCsum w csum
CsumFits w (slot sbid index) = Unit {0}

csum_of : (w : Width) (body : Body) (i : ℕ) → FitsBody w body → i < page_count body → CsumFits w (place_in body i)
csum_of w (shared sbid first count) i fits lt = tt
csum_of w (private unit csums) i fits lt = by csums i fits.3 lt
  where
    by : (cs : List ℕ) (i : ℕ) → AllByRecursion (FitsCsum w) cs → i < length cs → FitsCsum w (get_or cs i 0)
    by [] i all lt = absurd (omega (arith, lt))
    by (n ∷ cs) zero all lt = all.0
    by (n ∷ cs) (suc i) all lt = by cs i all.1 (omega (arith, lt))

-- what good rows say of a page
pub record IsGoodPage (s : Super) (size page : ℕ) (place : Place) : Type 0 where
  pub within : page < pages_of size
  pub on_data : StandsWithin (data_unit s) s.units place
  pub csum : CsumFits (width_of s) place

module _ (s : Super) (rows : Rows) (c o : List ℕ) (good : NoBadRow s rows) where
  placed : (page : ℕ) (es : List Extent) → HasShard (width_of s) rows c o page es → IsShardInPlace s rows c o page es
  placed page es has = in_place s rows (shard c o page es) good has

  pub good_page : (size page : ℕ) (place : Place) → HasOnode rows c o size → IsPageAt (width_of s) rows c o page place → IsGoodPage s size page place
  good_page size page place has is =
      let shard_in = placed is.first is.extents is.has_shard in
      let a = found_in (λ e. page_end e ≤ pages_of size) is.extents page place (shard_in.within size has) is.has_page in
      let b = found_in (λ e. IsOnData s e.body) is.extents page place shard_in.on_data is.has_page in
      let d = found_in (FitsExtent (width_of s)) is.extents page place is.has_shard.fits.fit is.has_page in
      record {
        within = omega (arith, a.below, a.holds);
        on_data = subst (StandsWithin (data_unit s) s.units) b.is (data_unit_of s b.extent.body (page - b.extent.first) b.holds (omega (arith, b.from, b.below)));
        csum = subst (CsumFits (width_of s)) d.is (csum_of (width_of s) d.extent.body (page - d.extent.first) d.holds.body
            (omega (arith, d.from, d.below)));
      }

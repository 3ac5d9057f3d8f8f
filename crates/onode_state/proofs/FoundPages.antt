-- An object's pages, found among the extents that its shards' rows spell.
use Rattle.std.proofs.Common.{◌≡◌, ℕ, List, [], ◌∷◌, ◌++◌, map, Some, refl, sym, ap, subst, ◌∙◌, arith}
use Rattle.std.specs.List.{flat_map, AllByRecursion}
use Rattle.meta_rows.specs.Prelude.{Rows, rows_from_to}
use Rattle.unit_fields.specs.Prelude.{IsName, IsCollName}
use Rattle.unit_fields.specs.declared.width.Width.{Width}
use Rattle.row_format.specs.Prelude.{object_key, shard_key, Extent, ExtentsAscend, Place, own, slot, extent_bytes, place_of, shard}
use Rattle.meta_log.specs.Prelude.{width_of}
use Rattle.store_image.specs.Prelude.{StandsOn}
use Rattle.store_image.proofs.Prelude.{in_place, one_place, some_unit}
use Rattle.plan_rows.proofs.OnData.{slot_within}
use Rattle.object_rows.specs.Shards.{AreShardsOf, extents_in}
use Rattle.object_rows.proofs.Shards.{by_shards_ascend, by_shards_pages}
use Rattle.page_lookup.specs.Prelude.{rows_read, place_found, HasNumber, FindPagesOf}
use Rattle.object_rows.proofs.GoodPages.{good_page}
use Rattle.page_lookup.proofs.Reading.{read_spelled}
use Rattle.page_lookup.proofs.Finding.{found_is}
use Rattle.page_lookup.proofs.Rows.{one_row, no_row}
use Rattle.object_rows.specs.Stores.{AreRowsOfAStore}
use Rattle.onode_state.proofs.ShardRows.{shard_entry, FitsAsShard, IsShardEntry, range_is_shards, range_has_all}
use Rattle.onode_state.proofs.States.{onode_there}

abbrev Entry : Type 0
Entry = List ℕ × List ℕ

-- the shards whose rows the entries are
record HasEntries (w : Width) (c o : List ℕ) (entries : List (List ℕ × List ℕ)) : Type 0 where
  shards : List (ℕ × List Extent)
  fit : AllByRecursion (FitsAsShard w c o) shards
  are : entries ≡ map (shard_entry w c o) shards

shards_of : (w : Width) (c o : List ℕ) (entries : List Entry) → AllByRecursion (IsShardEntry w c o) entries → HasEntries w c o entries
shards_of w c o [] all = record { shards = []; fit = tt; are = refl }
shards_of w c o (e ∷ es) all =
    let others = shards_of w c o es all.1 in
    record {
      shards = (all.0.page, all.0.extents) ∷ others.shards;
      fit = (all.0.fits, others.fit);
      are = λ i. all.0.is i ∷ others.are i;
    }

-- from their rows all their extents are read
read_shards : (w : Width) (c o : List ℕ) (shards : List (ℕ × List Extent)) → AllByRecursion (FitsAsShard w c o) shards
    → rows_read w (map (shard_entry w c o) shards) ≡ extents_in shards
read_shards w c o [] fit = no_row w
read_shards w c o (x ∷ xs) fit =
    one_row w (shard_entry w c o x) (map (shard_entry w c o) xs)
    ∙ (λ i. read_spelled w (flat_map (extent_bytes w) x.1) x.1 (record { fit = fit.0.fit; spelled = refl }) i ++ read_shards w c o xs fit.1 i)

module _ (rows : Rows) (c o : List ℕ) (entries : List Entry) (coll : IsCollName c) (name : IsName o) (store : AreRowsOfAStore rows)
    (is : entries ≡ rows_from_to rows (shard_key c o 0) (Some (object_key 0x4f c o (0x70 ∷ [])))) where
  abbrev w : Width
  w = width_of store.sup

  has : HasEntries w c o entries
  has = shards_of w c o entries
      (subst (AllByRecursion (IsShardEntry w c o)) (sym is) (range_is_shards w c o coll name store.sup rows store.good refl))

  are : AreShardsOf w rows c o has.shards
  are = range_has_all w c o coll name store.sup rows store.good refl has.shards has.fit (sym is ∙ has.are)

  read : rows_read w entries ≡ extents_in has.shards
  read = ap (rows_read w) has.are ∙ read_shards w c o has.shards has.fit

  shards_ascend : ExtentsAscend (extents_in has.shards)
  shards_ascend = by_shards_ascend store.sup rows c o store.good has.shards are

  -- the extents in the range of the object's shards ascend
  pub pages_ascend : ExtentsAscend (rows_read (width_of store.sup) entries)
  pages_ascend = subst ExtentsAscend (sym read) shards_ascend

  -- its pages are found there
  pub pages_found : FindPagesOf (width_of store.sup) rows c o (rows_read (width_of store.sup) entries)
  pages_found page place =
      let found : place_found (rows_read w entries) page ≡ place_of (extents_in has.shards) page =
      ap (λ (es : List Extent). place_found es page) read ∙ found_is (extents_in has.shards) page shards_ascend in
      let by = by_shards_pages store.sup rows c o store.good has.shards are page place in
      (λ get. by.0 (sym found ∙ get), λ at. found ∙ by.1 at)

-- their units are those of the store, and their slots those of blobs
pub numbers_fit : (rows : Rows) (c o : List ℕ) (es : List Extent) → IsCollName c → IsName o → (store : AreRowsOfAStore rows)
    → FindPagesOf (width_of store.sup) rows c o es
    → (page : ℕ) → HasNumber es page
numbers_fit rows c o es coll name store finds page (own unit csum) is =
    let at = (finds page (own unit csum)).0 is in
    let has = (in_place store.sup rows (shard c o at.first at.extents) store.good at.has_shard).has_onode in
    let there = onode_there rows c o coll name store has in
    omega (arith, (good_page store.sup rows c o store.good there.0 page (own unit csum) there.1 at).on_data.1, store.limits.units_most)
numbers_fit rows c o es coll name store finds page (slot sbid index) is =
    let at = (finds page (slot sbid index)).0 is in
    let on = some_unit store.sup rows store.good c o page (slot sbid index) at in
    let same = one_place store.sup rows store.good c o page on.1.place (slot sbid index) on.1.at at in
    let stands = subst (λ (place : Place). StandsOn (width_of store.sup) rows place on.0) same on.1.stands in
    let has = stands.1.0 in
    omega (arith, has.has_blob.fits.few, slot_within has.slots index stands.0 has.there)

-- An object as its rows have it, from the rows that are its own.
use Rattle.std.proofs.Common.{◌≡◌, ℕ, true, false, List, [], ◌∷◌, Option, Some, None, is_some, refl, sym, ap, subst, ◌∙◌, arith}
use Rattle.std.specs.List.{AllByRecursion}
use Rattle.std.specs.FinMap as finite
use Rattle.meta_rows.specs.Prelude.{Rows}
use Rattle.unit_fields.specs.Prelude.{IsName, IsCollName, Ascends}
use Rattle.row_format.specs.Prelude.{onode_key, shard_key, Extent, onode, shard, row_value}
use Rattle.meta_log.specs.Prelude.{width_of}
use Rattle.onode_codec.specs.Reading.{SpellsOnode}
use Rattle.onode_codec.proofs.Again.{same_onode as same_size}
use Rattle.store_image.specs.Prelude.{HasKey, HasOnode}
use Rattle.store_image.proofs.Prelude.{in_place}
use Rattle.blob_map.specs.Prelude.{PageMap, HasNumbers}
use Rattle.object_rows.specs.Shards.{AreShards, AreShardsOf, extents_in}
use Rattle.plan_rows.specs.Prelude.{IsMapOf}
use Rattle.object_rows.proofs.ByShards.{keys_there, map_by_shards, onode_under as onode_found}
use Rattle.object_rows.proofs.Shards.{shard_under, by_shards_numbers, by_shards_present, first_pages_climb}
use Rattle.object_rows.specs.Stores.{AreRowsOfAStore}
use Rattle.onode_state.specs.Objects.{HasShards, IsSizeAt, IsObjectState}

-- an onode's row, by its value
pub record OnodeIs (rows : Rows) (c o value : List ℕ) : Type 0 where
  pub size : ℕ
  pub has : HasOnode rows c o size
  pub spelled : SpellsOnode value size

module _ (rows : Rows) (c o : List ℕ) (coll : IsCollName c) (name : IsName o) (store : AreRowsOfAStore rows) where
  pub onode_under : (value : List ℕ) → finite.get rows (onode_key c o) ≡ Some value → OnodeIs rows c o value
  onode_under value is =
      let found = onode_found store.sup rows c o store.good coll name value is in
      let same : Some value ≡ Some (row_value (width_of store.sup) (onode c o found.0)) = sym is ∙ found.1.stands in
      record { size = found.0; has = found.1; spelled = record { below = found.1.fits.2; spelled = cc } }

  pub size_read : (value : List ℕ) (size : ℕ) → finite.get rows (onode_key c o) ≡ Some value → SpellsOnode value size → HasOnode rows c o size
  size_read value size is spelled =
      let found = onode_under value is in
      subst (λ n. HasOnode rows c o n) (same_size value found.size size found.spelled spelled) found.has

  -- ---- by its shards

  pub onode_there : HasKey rows (onode_key c o) → (size : ℕ) × HasOnode rows c o size
  onode_there has = elim (finite.get rows (onode_key c o)) as
      (λ r. finite.get rows (onode_key c o) ≡ r → is_some r ≡ true → (size : ℕ) × HasOnode rows c o size) [
        | None ↦ λ p t. absurd cc
        | Some value ↦ λ p t. let found = onode_under value p in (found.size, found.has)
      ] refl has

  pub numbers_of : (shards : List (ℕ × List Extent)) → AreShardsOf (width_of store.sup) rows c o shards
      → AllByRecursion HasNumbers (extents_in shards)
  numbers_of [] are = tt
  numbers_of (x ∷ xs) are =
      let size = onode_there (in_place store.sup rows (shard c o x.0 x.1) store.good are.there.0).has_onode in
      by_shards_numbers store.sup rows c o store.good (x ∷ xs) are size.0 size.1 (omega (arith, store.limits.units_most))

  module _ (firsts : List ℕ) (pages : PageMap) (has : HasShards (width_of store.sup) rows c o firsts pages) where
    map_is : IsMapOf (width_of store.sup) rows c o pages
    map_is = subst (IsMapOf (width_of store.sup) rows c o) (sym has.pages_are) (map_by_shards store.sup rows c o store.good has.shards has.are)

    state_of : (size : ℕ) → HasOnode rows c o size → IsObjectState (width_of store.sup) rows c o (Some size) pages firsts
    state_of size has_size = record {
      layout = Some (record { size = size; pages = pages });
      has = (has_size, map_is);
      size_is = refl;
      pages_are = refl;
      are_shards = subst (λ ps. AreShards rows c o ps) (sym has.firsts_are)
          (by_shards_present store.sup rows c o store.good has.shards has.are coll name);
      there = subst (AllByRecursion (λ page. HasKey rows (shard_key c o page))) (sym has.firsts_are) (keys_there store.sup rows c o store.good has.shards has.are.there);
      in_order = subst Ascends (sym has.firsts_are) (first_pages_climb has.shards has.are.rise);
    }

    pub state_there : (size : Option ℕ) → IsSizeAt rows c o size → is_some size ≡ true → IsObjectState (width_of store.sup) rows c o size pages firsts
    state_there None at some = absurd cc
    state_there (Some size) at some = state_of size at

  -- a missing object has no shard
  no_state : finite.get rows (onode_key c o) ≡ None → IsObjectState (width_of store.sup) rows c o None finite.empty []
  no_state none = record {
    layout = None;
    has = none;
    size_is = refl;
    pages_are = refl;
    are_shards = record {
      below = tt;
      all = λ page below has.
          let found = shard_under store.sup rows c o store.good coll name page below has in
          let held = (in_place store.sup rows (shard c o page found.0) store.good found.1).has_onode in
          let gone = ap is_some none in absurd cc;
    };
    there = tt;
    in_order = tt;
  }

  pub state_missing : (size : Option ℕ) → IsSizeAt rows c o size → is_some size ≡ false → IsObjectState (width_of store.sup) rows c o size finite.empty []
  state_missing None at none = no_state at
  state_missing (Some size) at none = absurd cc

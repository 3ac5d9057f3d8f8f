-- What an object's rows say of its size and of its pages, by its shards.
use Rattle.std.proofs.Common.{◌≡◌, ℕ, List, [], ◌∷◌, Some, is_some, flat_map, sym, ap, subst, ◌∙◌}
use Rattle.std.specs.List.{AllByRecursion}
use Rattle.std.specs.FinMap as finite
use Rattle.meta_rows.specs.Prelude.{Rows}
use Rattle.meta_log.specs.declared.slot.Super.{Super}
use Rattle.meta_log.specs.Prelude.{width_of}
use Rattle.unit_fields.specs.Prelude.{IsName, IsCollName}
use Rattle.row_format.specs.Prelude.{onode_key, shard_key, Extent, Row, row_key}
use Rattle.row_format.proofs.Prelude.{under_onode}
use Rattle.store_image.specs.Prelude.{HasKey, HasRow, HasOnode, HasShard, NoBadRow}
use Rattle.blob_map.specs.Prelude.{extent_pages, with_pages}
use Rattle.blob_map.proofs.Places.{laid_alone}
use Rattle.plan_rows.specs.Layouts.{IsMapOf}
use Rattle.object_rows.specs.Shards.{AreShardsOf, extents_in, first_pages}
use Rattle.object_rows.proofs.Shards.{by_shards_ascend, by_shards_pages}

module _ (s : Super) (rows : Rows) (c o : List ℕ) (good : NoBadRow s rows) where
  -- ---- by its shards

  pub keys_there : (shards : List (ℕ × List Extent)) → AllByRecursion (λ x. HasShard (width_of s) rows c o x.0 x.1) shards
      → AllByRecursion (λ page. HasKey rows (shard_key c o page)) (first_pages shards)
  keys_there [] has = tt
  keys_there (x ∷ xs) has = (ap is_some has.0.stands, keys_there xs has.1)

  pub map_by_shards : (shards : List (ℕ × List Extent)) → AreShardsOf (width_of s) rows c o shards
      → IsMapOf (width_of s) rows c o (with_pages finite.empty (flat_map extent_pages (extents_in shards)))
  map_by_shards shards are page place =
      let said = laid_alone (extents_in shards) (by_shards_ascend s rows c o good shards are) page in
      let by = by_shards_pages s rows c o good shards are page place in
      (λ get. by.0 (sym said ∙ get), λ at. said ∙ by.1 at)

  module _ (coll : IsCollName c) (name : IsName o) where
    -- ---- its size

    onode_row : (x : Row) → HasRow (width_of s) rows x → onode_key c o ≡ row_key x → (size : ℕ) × HasOnode rows c o size
    onode_row x has key =
        let is = under_onode (width_of s) c o x coll name has.fits key in
        (is.0, subst (HasRow (width_of s) rows) is.1 has)

    pub onode_under : (value : List ℕ) → finite.get rows (onode_key c o) ≡ Some value → (size : ℕ) × HasOnode rows c o size
    onode_under value is =
        let g = good (onode_key c o) value is in
        onode_row g.row (record { fits = g.fits; stands = ap (finite.get rows) (sym g.key_is) ∙ is ∙ ap Some g.value_is }) g.key_is

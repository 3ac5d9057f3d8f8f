-- The shards of an object begin at pages that it may have, so they are no more than these.
use Rattle.std.proofs.Common.{ℕ, ◌+◌, ◌<◌, ◌≤◌, ◌^◌, List, [], ◌∷◌, length, is_some, sym, ap, ◌∙◌, arith}
use Rattle.std.specs.List.{AllByRecursion}
use Rattle.meta_rows.specs.Prelude.{Rows}
use Rattle.meta_log.specs.declared.slot.Super.{Super}
use Rattle.meta_log.specs.Prelude.{width_of}
use Rattle.unit_fields.specs.Prelude.{IsName, IsCollName, Ascends}
use Rattle.unit_fields.specs.declared.width.Width.{Width}
use Rattle.row_format.specs.Prelude.{shard_key, Extent, page_end, BeginsAt, FitsExtent, onode, shard}
use Rattle.store_image.specs.Prelude.{HasKey, pages_of, IsShardInPlace, NoBadRow}
use Rattle.store_image.proofs.Prelude.{in_place}
use Rattle.plan_drafts.specs.Prelude.{IsSizeOf, missing, there}
use Rattle.plan_proofs.proofs.Lengths.{has_page}
use Rattle.object_rows.proofs.Shards.{shard_under, both_all}

-- the page where extents begin that end by a limit
begins_below : (w : Width) (es : List Extent) (page limit : ℕ) → BeginsAt page es → AllByRecursion (FitsExtent w) es
    → AllByRecursion (λ e. page_end e ≤ limit) es → page < limit
begins_below w [] page limit begins fit within = absurd begins
begins_below w (e ∷ es) page limit begins fit within = omega (arith, begins, has_page w e.body fit.0.body, within.0)

-- ascending numbers behind one, up to a limit
many_above : (u : ℕ) (us : List ℕ) (limit : ℕ) → u < limit → AllByRecursion (λ v. u < v) us → Ascends us → AllByRecursion (λ v. v < limit) us
    → length us + u < limit
many_above u [] limit lt above ascend below = omega (arith, lt)
many_above u (v ∷ us) limit lt above ascend below = omega (arith, above.0, many_above v us limit below.0 ascend.0 ascend.1 below.1)

many_below : (us : List ℕ) (limit : ℕ) → Ascends us → AllByRecursion (λ v. v < limit) us → length us ≤ limit
many_below [] limit ascend below = omega arith
many_below (u ∷ us) limit ascend below = omega (arith, many_above u us limit below.0 ascend.0 ascend.1 below.1)

module _ (s : Super) (rows : Rows) (c o : List ℕ) (good : NoBadRow s rows) (coll : IsCollName c) (name : IsName o) where
  -- the first page of a shard is a page that the object may have
  pub page_small : (size page : ℕ) → IsSizeOf rows c o size → page < 2 ^ 32 → HasKey rows (shard_key c o page) → page < 32768
  page_small size page (missing none) lt has =
      let found = shard_under s rows c o good coll name page lt has in
      let place : IsShardInPlace s rows c o page found.0 = in_place s rows (shard c o page found.0) good found.1 in
      absurd (let t = sym place.has_onode ∙ ap is_some none in cc)
  page_small size page (there n onode_is) lt has =
      let found = shard_under s rows c o good coll name page lt has in
      let place : IsShardInPlace s rows c o page found.0 = in_place s rows (shard c o page found.0) good found.1 in
      let below : page < pages_of n =
      begins_below (width_of s) found.0 page (pages_of n) found.1.fits.begins found.1.fits.fit (place.within n onode_is) in
      let most : n ≤ 134217728 = (in_place s rows (onode c o n) good onode_is).1 in
      let pages : pages_of n ≤ 32768 = omega (arith, most) in omega (arith, below, pages)

  pub few_shards : (size : ℕ) (present : List ℕ) → IsSizeOf rows c o size → AllByRecursion (λ page. page < 2 ^ 32) present
      → AllByRecursion (λ page. HasKey rows (shard_key c o page)) present → Ascends present → length present ≤ 32768
  few_shards size present was below has ascend = many_below present 32768 ascend
      (both_all (λ page. page < 2 ^ 32) (λ page. HasKey rows (shard_key c o page)) (λ page. page < 32768)
      (λ page lt k. page_small size page was lt k) present below has)

-- Where no row is bad each object has a layout, and a list of its shards.
use Rattle.std.proofs.Common.{◌≡◌, inl, inr, ℕ, zero, suc, ◌+◌, ◌<◌, ◌≤◌, true, false, List, [], ◌∷◌, Contains, Option, Some, None, is_some, flat_map, refl, sym, ap, subst, ◌∙◌, arith}
use Rattle.std.specs.List.{AllByRecursion}
use Rattle.std.specs.FinMap as finite
use Rattle.std.proofs.lemmas.Bool.{cases_lt}
use Rattle.meta_rows.specs.Prelude.{Rows}
use Rattle.meta_log.specs.declared.slot.Super.{Super}
use Rattle.meta_log.specs.Prelude.{width_of}
use Rattle.unit_fields.specs.Prelude.{IsName, IsCollName, Ascends}
use Rattle.unit_fields.specs.declared.width.Width.{Width}
use Rattle.row_format.specs.Prelude.{onode_key, shard_key, Extent, shard}
use Rattle.row_format.proofs.Prelude.{same_row}
use Rattle.store_image.specs.Prelude.{HasKey, HasOnode, HasShard, NoBadRow}
use Rattle.blob_map.specs.Prelude.{extent_pages, with_pages}
use Rattle.plan_drafts.specs.Prelude.{Layout, HasLayout, IsSizeOf, missing, there}
use Rattle.object_rows.specs.Shards.{ShardsAscend, AreShardsOf, extents_in, first_pages, AreShards}
use Rattle.plan_proofs.proofs.FewShards.{page_small}
use Rattle.object_rows.proofs.ByShards.{keys_there, map_by_shards, onode_under}
use Rattle.object_rows.proofs.GoodPages.{all_map}
use Rattle.object_rows.proofs.Shards.{shard_under, by_shards_present, first_pages_climb}

module _ (s : Super) (rows : Rows) (c o : List ℕ) (good : NoBadRow s rows) where
  module _ (coll : IsCollName c) (name : IsName o) where
    onode_there : (value : List ℕ) → finite.get rows (onode_key c o) ≡ Some value → (size : ℕ) × HasOnode rows c o size
    onode_there = onode_under s rows c o good coll name

    pub size_of : (size : ℕ) × IsSizeOf rows c o size
    size_of = elim (finite.get rows (onode_key c o)) as (λ r. finite.get rows (onode_key c o) ≡ r → (size : ℕ) × IsSizeOf rows c o size) [
      | None ↦ λ p. (0, missing p)
      | Some value ↦ λ p. let found = onode_there value p in (found.0, there found.0 found.1)
    ] refl

    -- ---- its shards, page by page

    one_shard : (page : ℕ) (es fs : List Extent) → HasShard (width_of s) rows c o page es → HasShard (width_of s) rows c o page fs → es ≡ fs
    one_shard page es fs a b =
        let same : shard c o page es ≡ shard c o page fs =
        same_row (width_of s) (shard c o page es) (shard c o page fs) a.fits b.fits refl (let e = sym a.stands ∙ b.stands in cc) in cc

    record Found (from end : ℕ) : Type 0 where
      pub shards : List (ℕ × List Extent)
      pub there : AllByRecursion (λ x. HasShard (width_of s) rows c o x.0 x.1) shards
      pub behind : AllByRecursion (λ x. from ≤ x.0) shards
      pub rise : ShardsAscend shards
      pub all : (page : ℕ) (es : List Extent) → from ≤ page → page < end → HasShard (width_of s) rows c o page es → Contains shards (page, es)

    -- where no shard begins at the first page, those behind it are all
    not_first : (from count : ℕ) → Found (from + 1) (from + 1 + count) → ¬ HasKey rows (shard_key c o from) → Found from (from + suc count)
    not_first from count rest none = record {
      shards = rest.shards;
      there = rest.there;
      behind = all_map (λ x. from + 1 ≤ x.0) (λ x. from ≤ x.0) (λ x le. omega (arith, le)) rest.shards rest.behind;
      rise = rest.rise;
      all = λ page es le lt has. elim (cases_lt from page) [
        | inl more ↦ rest.all page es (omega (arith, more)) (omega (arith, lt)) has
        | inr less ↦ absurd
            (let here : page ≡ from = omega (arith, le, less) in
            none (subst (λ n. HasKey rows (shard_key c o n)) here (ap is_some has.stands)))
      ];
    }

    with_first : (from count : ℕ) → Found (from + 1) (from + 1 + count) → (own : List Extent) → HasShard (width_of s) rows c o from own
        → Found from (from + suc count)
    with_first from count rest own is = record {
      shards = (from, own) ∷ rest.shards;
      there = (is, rest.there);
      behind = (omega arith, all_map (λ x. from + 1 ≤ x.0) (λ x. from ≤ x.0) (λ x le. omega (arith, le)) rest.shards rest.behind);
      rise = (all_map (λ x. from + 1 ≤ x.0) (λ x. from < x.0) (λ x le. omega (arith, le)) rest.shards rest.behind, rest.rise);
      all = λ page es le lt has. elim (cases_lt from page) [
        | inl more ↦ let k = rest.all page es (omega (arith, more)) (omega (arith, lt)) has in (suc k.0, omega (arith, k.1), k.2)
        | inr less ↦
            let here : page ≡ from = omega (arith, le, less) in
            let same : own ≡ es = one_shard from own es is (subst (λ n. HasShard (width_of s) rows c o n es) here has) in
            (0, omega arith, λ i. (sym here i, same i))
      ];
    }

    found : (count from : ℕ) → from + count ≤ 32768 → Found from (from + count)
    found zero from most = record { shards = []; there = tt; behind = tt; rise = tt; all = λ page es le lt has. absurd (omega (arith, le, lt)) }
    found (suc count) from most =
        let rest : Found (from + 1) (from + 1 + count) = found count (from + 1) (omega (arith, most)) in
        elim (finite.contains_key rows (shard_key c o from)) as
        (λ b. finite.contains_key rows (shard_key c o from) ≡ b → Found from (from + suc count)) [
          | true ↦ λ has.
              let own = shard_under s rows c o good coll name from (omega (arith, most)) has in with_first from count rest own.0 own.1
          | false ↦ λ none. not_first from count rest (λ has. let t = sym none ∙ has in cc)
        ] refl

    shards_by : (most : ℕ) → most ≡ 32768 → (shards : List (ℕ × List Extent)) × AreShardsOf (width_of s) rows c o shards
    shards_by most is =
        let all : Found 0 (0 + most) = found most 0 (omega (arith, is)) in (
          all.shards,
          record {
            there = all.there;
            all = λ page es has. all.all page es (omega arith)
                (omega (arith, page_small s rows c o good coll name size_of.0 page size_of.1 has.fits.page_below (ap is_some has.stands), is)) has;
            rise = all.rise;
          },
        )

    -- its layout, if it is there
    layout_by : (shards : List (ℕ × List Extent)) → AreShardsOf (width_of s) rows c o shards → (x : Option Layout) × HasLayout (width_of s) rows c o x
    layout_by shards are =
        elim (finite.get rows (onode_key c o)) as
        (λ r. finite.get rows (onode_key c o) ≡ r → (x : Option Layout) × HasLayout (width_of s) rows c o x) [
          | None ↦ λ p. (None, p)
          | Some value ↦ λ p.
              let found = onode_there value p in (
                Some (record { size = found.0; pages = with_pages finite.empty (flat_map extent_pages (extents_in shards)) }),
                (found.1, map_by_shards s rows c o good shards are),
              )
        ] refl

-- an object by its rows
pub record ObjectInRows (w : Width) (rows : Rows) (c o : List ℕ) : Type 0 where
  pub layout : Option Layout
  pub has : HasLayout w rows c o layout
  pub present : List ℕ
  pub are_shards : AreShards rows c o present
  pub there : AllByRecursion (λ page. HasKey rows (shard_key c o page)) present
  pub in_order : Ascends present

pub object_in_rows : (s : Super) (rows : Rows) (c o : List ℕ) → NoBadRow s rows → IsCollName c → IsName o → ObjectInRows (width_of s) rows c o
object_in_rows s rows c o good coll name =
    let shards = shards_by s rows c o good coll name 32768 refl in
    let layout = layout_by s rows c o good coll name shards.0 shards.1 in
    record {
      layout = layout.0;
      has = layout.1;
      present = first_pages shards.0;
      are_shards = by_shards_present s rows c o good shards.0 shards.1 coll name;
      there = keys_there s rows c o good shards.0 shards.1.there;
      in_order = first_pages_climb shards.0 shards.1.rise;
    }

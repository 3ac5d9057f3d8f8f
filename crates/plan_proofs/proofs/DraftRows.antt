-- The rows after the operations of a transaction: no row is bad, and each object has its layout.
use Rattle.std.proofs.Common.{◌≡◌, ◌≢◌, ◌⊎◌, ◌↔◌, inl, inr, ℕ, ◌<◌, ◌≤◌, ◌^◌, ◌-◌, Bool, true, false, cond, List, [], Option, Some, None, is_some, refl, sym, ap, subst, ◌∙◌, arith}
use Rattle.std.specs.Prelude.{unwrap_or, ◌||◌}
use Rattle.std.specs.Option.{option_map}
use Rattle.std.specs.List.{AllByRecursion}
use Rattle.std.specs.Ordering.{nat_cmp}
use Rattle.std.specs.Int.{w64, to_le_bytes}
use Rattle.std.specs.FinMap as finite
use Rattle.meta_rows.specs.Prelude.{Rows}
use Rattle.meta_log.specs.declared.slot.Super.{Super}
use Rattle.meta_log.specs.Prelude.{width_of, data_unit}
use Rattle.object_model.specs.Prelude.{object_limit}
use Rattle.unit_fields.specs.Prelude.{IsName, IsCollName}
use Rattle.row_format.specs.Prelude.{coll_key, onode_key, shard_key, attr_key, header_key, omap_key, shared_key, bitmap_key, Extent, FitsExtent, ExtentsAscend, Place, own, slot, Slot, Row, collection, onode, shard, omap_header, omap_pair, blob, bitmap, row_key, row_value, FitsRow}
use Rattle.row_format.specs.Row as format
use Rattle.row_format.proofs.Prelude.{same_row}
use Rattle.store_image.specs.Prelude.{HasKey, HasRow, HasOnode, HasShard, IsPageAt, pages_of, PageUnit, HasSlot, StandsOn, IsNamedBy, HasSlots, IsShardInPlace, HasObject, IsInPlace, IsGoodRow, NoBadRow, PageName, AreNamers}
use Rattle.store_image.proofs.Prelude.{equal_or_not, in_place, slot_still}
use Rattle.store_image.proofs.Counting as counting
use Rattle.store_image.proofs.PageUnits.{one_unit}
use Rattle.blob_map.specs.Prelude.{FitsPlace, StandsWithin}
use Rattle.extent_shards.specs.Prelude.{shard_bytes, shards_of, shard_limit, shard_at}
use Rattle.plan_drafts.specs.declared.draft.Draft.{Draft}
use Rattle.plan_drafts.specs.Prelude.{Held, Layout, HasLayout, or_empty, or_new, size_at, extents_at, AreCut, GetsShards, stay, cut, ValueKey, attribute, header, pair, value_key, IsValueKey, CollDraft, laid, laid_at, indexes_of, times_in, blob_after, IsKeyOfSlot, IsKeyOfColl, Stands}
use Rattle.plan_proofs.proofs.Difference.{less_apart}
use Rattle.plan_proofs.proofs.DraftKeys.{coll_apart_of, onode_apart, shard_apart, value_apart, bits_apart, no_blob, value_no_blob}
use Rattle.plan_proofs.proofs.Drafted.{AreThose, Named, AreDrafted}
use Rattle.plan_proofs.proofs.AfterObject.{ends_within, some_page, has_shard, own_pages, cut_ascend, new_in_place}
use Rattle.plan_proofs.proofs.BlobRows.{blob_placed, blob_row_good, slot_kept}
use Rattle.object_rows.proofs.GoodPages.{CsumFits, IsGoodPage, good_page}
use Rattle.plan_proofs.proofs.Laid.{laid_cases, by_taking, as_before, StandsAt}
use Rattle.plan_proofs.proofs.Slots.{page_names, named_page, HasPlace, places_have, slot_inside, slot_fits, HasSome, left_named, left_or_none, page_slot, one_home}
use Rattle.plan_proofs.proofs.Maps.{size_is, places_at, layout_fit, layout_on_data}
use Rattle.plan_proofs.proofs.Reached.{IsObjectReached}
use Rattle.plan_proofs.proofs.ValuesWritten.{FitsValue}

-- ---- the rows after

module _ (s : Super) (rows after : Rows) (c : List ℕ) (layouts : List ℕ → Option Layout) (units : List ℕ) (held : Held) (y : CollDraft)
    (a : AreDrafted s rows after c layouts units held y) where
  -- ---- layouts

  -- the layout of an object then
  abbrev pub now : List ℕ → Option Layout
  now o = laid_at units held y o

  nowhere : (page : ℕ) {P : Type 0} (place : Place) → finite.get {R = nat_cmp} finite.empty page ≡ Some place → P
  nowhere page place is = absurd (let t = sym (finite.get-empty nat_cmp page) ∙ is in cc)

  -- a page of it is that of a draft
  pub record OfDraft (o : List ℕ) (page : ℕ) (place : Place) : Type 0 where
    pub draft : Draft
    pub there : y.layout o ≡ Some draft
    pub stands : StandsAt units held draft page place

  pub of_draft : (o : List ℕ) (page : ℕ) (place : Place) → finite.get (or_empty (now o)).pages page ≡ Some place → OfDraft o page place
  of_draft o page place is = by (y.layout o) refl is
    where
      by : (x : Option Draft) → y.layout o ≡ x → finite.get (or_empty (option_map (laid units held) x)).pages page ≡ Some place → OfDraft o page place
      by None p e = nowhere page place e
      by (Some d) p e = record { draft = d; there = p; stands = laid_cases units held d page place e }

  pub object_reached : (o : List ℕ) (d : Draft) → IsName o → y.layout o ≡ Some d → IsObjectReached (layouts o) y.taken d
  object_reached o d name is = a.reached.objects o d name is

  now_size : (o : List ℕ) (d : Draft) → y.layout o ≡ Some d → (or_empty (now o)).size ≡ d.size
  now_size o d is = ap (λ x. (or_empty (option_map (laid units held) x)).size) is

  pub now_most : (o : List ℕ) → IsName o → (or_empty (now o)).size ≤ object_limit
  now_most o name = by (y.layout o) refl
    where
      by : (x : Option Draft) → y.layout o ≡ x → (or_empty (option_map (laid units held) x)).size ≤ object_limit
      by None p = omega arith
      by (Some d) p = (object_reached o d name p).most

  -- an object that is missing had no pages
  pub map_was : (o : List ℕ) → IsName o → (page : ℕ) (place : Place) → (finite.get (or_empty (layouts o)).pages page ≡ Some place) ↔ IsPageAt (width_of s) rows c o page place
  map_was o name page place = by (layouts o) (a.has o name)
    where
      by : (z : Option Layout) → HasLayout (width_of s) rows c o z
          → (finite.get (or_empty z).pages page ≡ Some place) ↔ IsPageAt (width_of s) rows c o page place
      by (Some l) has = has.1 page place
      by None none = (
        λ is. nowhere page place is,
        λ is.
            let placed = in_place s rows (shard c o is.first is.extents) a.good is.has_shard in
            absurd (let t = sym placed.has_onode ∙ ap is_some none in cc),
      )

  -- what the rows say of a page that stood
  was_good : (o : List ℕ) (page : ℕ) (place : Place) → IsName o → finite.get (or_empty (layouts o)).pages page ≡ Some place
      → StandsWithin (data_unit s) s.units place × CsumFits (width_of s) place
  was_good o page place name is = by (layouts o) (a.has o name) is
    where
      by : (x : Option Layout) → HasLayout (width_of s) rows c o x → finite.get (or_empty x).pages page ≡ Some place
          → StandsWithin (data_unit s) s.units place × CsumFits (width_of s) place
      by None none is = nowhere page place is
      by (Some l) has is =
          let g = good_page s rows c o a.good l.size page place has.0 ((has.1 page place).0 is) in (g.on_data, g.csum)

  there_by : (b c : Bool) → b ≡ true → (b ≡ true) ⊎ (c ≡ true)
  there_by b c is = inl is

  pub now_good : (o : List ℕ) → IsName o → (page : ℕ) (place : Place) → finite.get (or_empty (now o)).pages page ≡ Some place
      → IsGoodPage s (or_empty (now o)).size page place
  now_good o name page place is =
      let of : OfDraft o page place = of_draft o page place is in by place of of.stands
    where
      by : (place : Place) (of : OfDraft o page place) → StandsAt units held of.draft page place → IsGoodPage s (or_empty (now o)).size page place
      by _ of (by_taking taking put) =
          let st : Stands y taking = record { object = o; named = name; draft = of.draft; there = of.there; page = page; put = put } in
          record {
            within = subst (λ n. page < pages_of n) (sym (now_size o of.draft of.there))
                ((object_reached o of.draft name of.there).ends page (put_there of.draft taking put));
            on_data = a.on_data taking st;
            csum = a.sums taking st;
          }
        where
          put_there : (d : Draft) (taking : ℕ) → finite.get d.puts page ≡ Some taking → (finite.contains_key d.kept page || finite.contains_key d.puts page) ≡ true
          put_there d taking is = ap (λ (x : Option ℕ). finite.contains_key d.kept page || is_some x) is ∙ or_true (finite.contains_key d.kept page)
            where
              or_true : (b : Bool) → (b || true) ≡ true
              or_true true = refl
              or_true false = refl
      by _ of (as_before place none kept) =
          let r = object_reached o of.draft name of.there in
          let was = was_good o page place name (r.kept page place kept) in
          record {
            within = subst (λ n. page < pages_of n) (sym (now_size o of.draft of.there))
                (r.ends page (ap (λ (x : Option Place). is_some x || finite.contains_key of.draft.puts page) kept));
            on_data = was.0;
            csum = was.1;
          }

  -- the numbers of its pages' places fit
  was_fits : (o : List ℕ) (page : ℕ) (place : Place) → IsName o → finite.get (or_empty (layouts o)).pages page ≡ Some place → FitsPlace (width_of s) place
  was_fits o page (own unit csum) name is = let g = was_good o page (own unit csum) name is in (omega (arith, g.0.1, a.units_most), g.1)
  was_fits o page (slot sbid index) name is =
      let at = page_slot s rows a.good c o page sbid index ((map_was o name page (slot sbid index)).0 is) in
      slot_fits (width_of s) rows sbid index at.unit at.is at.has_slot

  pub now_fits : (o : List ℕ) → IsName o → (page : ℕ) (place : Place) → finite.get (or_empty (now o)).pages page ≡ Some place
      → FitsPlace (width_of s) place
  now_fits o name page place is = let of : OfDraft o page place = of_draft o page place is in by place of of.stands
    where
      by : (place : Place) (of : OfDraft o page place) → StandsAt units held of.draft page place → FitsPlace (width_of s) place
      by _ of (by_taking taking put) =
          let st : Stands y taking = record { object = o; named = name; draft = of.draft; there = of.there; page = page; put = put } in
          (omega (arith, (a.on_data taking st).1, a.units_most), a.sums taking st)
      by _ of (as_before place none kept) = was_fits o page place name ((object_reached o of.draft name of.there).kept page place kept)

  -- ---- one object's rows

  abbrev extents : List ℕ → List Extent
  extents o = extents_at (now o)

  pub fit : (o : List ℕ) → IsName o → AllByRecursion (FitsExtent (width_of s)) (extents o)
  fit o name = layout_fit s (now o) (now_most o name) (now_good o name) (now_fits o name)

  module _ (o : List ℕ) (name : IsName o) where
    onode_fits : (n : ℕ) → size_at (now o) ≡ Some n → n < 2 ^ 64
    onode_fits n is = omega (arith, ap (λ z. unwrap_or z 0) is, size_is (now o), now_most o name)

    -- its onode says how long it is
    onode_now : (n : ℕ) → size_at (now o) ≡ Some n → HasOnode after c o n
    onode_now n is = record {
      fits = (a.coll, name, onode_fits n is);
      stands = (a.gets.objects o name).onode ∙ ap (option_map (to_le_bytes w64)) is;
    }

    -- its shards as they were
    module _ (same : (page : ℕ) → page < 2 ^ 32 → finite.get after (shard_key c o page) ≡ finite.get rows (shard_key c o page)) where
      shard_is : (page : ℕ) (es : List Extent) → HasShard (width_of s) rows c o page es → HasShard (width_of s) after c o page es
      shard_is page es has = record { fits = has.fits; stands = same page has.fits.page_below ∙ has.stands }

      shard_was : (page : ℕ) (es : List Extent) → HasShard (width_of s) after c o page es → HasShard (width_of s) rows c o page es
      shard_was page es has = record { fits = has.fits; stands = sym (same page has.fits.page_below) ∙ has.stands }

      page_is : (page : ℕ) (place : Place) → IsPageAt (width_of s) rows c o page place → IsPageAt (width_of s) after c o page place
      page_is page place was = record {
        first = was.first;
        extents = was.extents;
        has_shard = shard_is was.first was.extents was.has_shard;
        has_page = was.has_page;
      }

      page_was : (page : ℕ) (place : Place) → IsPageAt (width_of s) after c o page place → IsPageAt (width_of s) rows c o page place
      page_was page place is = record {
        first = is.first;
        extents = is.extents;
        has_shard = shard_was is.first is.extents is.has_shard;
        has_page = is.has_page;
      }

    -- its pages are those of its layout
    pub map_now : (page : ℕ) (place : Place) → (finite.get (or_empty (now o)).pages page ≡ Some place) ↔ IsPageAt (width_of s) after c o page place
    map_now page place = by (a.gets.objects o name).shards
      where
        by : GetsShards (width_of s) rows after c o (or_empty (layouts o)).pages (or_empty (now o)).pages
            → (finite.get (or_empty (now o)).pages page ≡ Some place) ↔ IsPageAt (width_of s) after c o page place
        by (stay e same) = (
          λ is. page_is same page place ((map_was o name page place).0 (ap (λ m. finite.get m page) e ∙ is)),
          λ is. sym (ap (λ m. finite.get m page) e) ∙ (map_was o name page place).1 (page_was same page place is),
        )
        by (cut apart are) = own_pages s after c o (or_empty (now o)).pages a.coll name (fit o name) are page place

    -- the object has its layout
    pub has_now : HasLayout (width_of s) after c o (now o)
    has_now = by (now o) refl
      where
        by : (z : Option Layout) → now o ≡ z → HasLayout (width_of s) after c o z
        by None p = (a.gets.objects o name).onode ∙ ap (λ z. option_map (to_le_bytes w64) (size_at z)) p
        by (Some l) p = (
          onode_now l.size (ap size_at p),
          λ page place.
              let both = map_now page place in
              let same : finite.get (or_empty (now o)).pages page ≡ finite.get l.pages page = ap (λ (v : Option Layout). finite.get (or_empty v).pages page) p in
              (λ is. both.0 (same ∙ is), λ is. sym same ∙ both.1 is),
        )

  -- ---- which rows are there

  one_size : (o : List ℕ) (n m : ℕ) → HasOnode after c o n → HasOnode after c o m → n ≡ m
  one_size o n m p q =
      let value : Some (row_value (width_of s) (onode c o n)) ≡ Some (row_value (width_of s) (onode c o m)) = sym p.stands ∙ q.stands in
      let same : onode c o n ≡ onode c o m = same_row (width_of s) (onode c o n) (onode c o m) p.fits q.fits refl cc in cc

  -- an object that is there has the collection's row and its onode
  module _ (o : List ℕ) (name : IsName o) where
    coll_there : is_some (y.layout o) ≡ true → HasKey after (coll_key c)
    coll_there some = ap is_some (a.gets.coll ∙ ap (λ b. cond b (Some []) None) (a.reached.in_coll o name some))

    onode_there : is_some (y.layout o) ≡ true → HasKey after (onode_key c o)
    onode_there some = by (y.layout o) some (has_now o name)
      where
        by : (x : Option Draft) → is_some x ≡ true → HasLayout (width_of s) after c o (option_map (laid units held) x) → HasKey after (onode_key c o)
        by None some has = absurd cc
        by (Some d) some has = ap is_some has.0.stands

    -- one whose onode is there is there, and as long as it says
    pub of_onode : (n : ℕ) → HasOnode after c o n → (d : Draft) × (y.layout o ≡ Some d) × (d.size ≡ n)
    of_onode n has = by (y.layout o) refl (has_now o name)
      where
        by : (x : Option Draft) → y.layout o ≡ x → HasLayout (width_of s) after c o (option_map (laid units held) x)
            → (d : Draft) × (y.layout o ≡ Some d) × (d.size ≡ n)
        by None p none = absurd (let t = sym has.stands ∙ none in cc)
        by (Some d) p there = (d, p, one_size o d.size n there.0 has)

  -- rows under other keys are as they were
  kept : (key : List ℕ) → (IsKeyOfColl c key → ⊥) → (IsKeyOfSlot y.unshared key → ⊥) → finite.get after key ≡ finite.get rows key
  kept key none no_slot = elim (a.gets.others key) [
    | inl its ↦ absurd (elim its [ inl mine ↦ none mine | inr of ↦ no_slot of ])
    | inr same ↦ same
  ]

  -- the rows of other collections' names are as they were
  pub colls_same : (d : List ℕ) → d ≢ c → finite.get after (coll_key d) ≡ finite.get rows (coll_key d)
  colls_same d apart = kept (coll_key d) (coll_apart_of c d apart) (no_blob y.unshared 0x43 d (λ e. omega (arith, e)))

  -- and all their rows
  module _ (d : List ℕ) (other : IsCollName d) (apart : d ≢ c) where
    module _ (u : List ℕ) (named : IsName u) where
      pub onode_same : finite.get after (onode_key d u) ≡ finite.get rows (onode_key d u)
      onode_same = kept (onode_key d u) (onode_apart c d a.coll other apart u named) (no_blob y.unshared 0x4f _ (λ e. omega (arith, e)))

      shard_same : (page : ℕ) → page < 2 ^ 32 → finite.get after (shard_key d u page) ≡ finite.get rows (shard_key d u page)
      shard_same page lt = kept (shard_key d u page) (shard_apart c d a.coll other apart u named page lt)
          (no_blob y.unshared 0x4f _ (λ e. omega (arith, e)))

      pub value_same : (k : ValueKey) → finite.get after (value_key d u k) ≡ finite.get rows (value_key d u k)
      value_same k = kept (value_key d u k) (value_apart c d a.coll other apart u named k) (value_no_blob y.unshared d u k)

    pub other_onode : (u : List ℕ) (n : ℕ) → HasOnode after d u n ↔ HasOnode rows d u n
    other_onode u n = (
      λ has. record { fits = has.fits; stands = sym (onode_same u has.fits.1) ∙ has.stands },
      λ has. record { fits = has.fits; stands = onode_same u has.fits.1 ∙ has.stands },
    )

    other_shard : (u : List ℕ) (page : ℕ) (es : List Extent) → HasShard (width_of s) after d u page es ↔ HasShard (width_of s) rows d u page es
    other_shard u page es = (
      λ has. record { fits = has.fits; stands = sym (shard_same u has.fits.object_name page has.fits.page_below) ∙ has.stands },
      λ has. record { fits = has.fits; stands = shard_same u has.fits.object_name page has.fits.page_below ∙ has.stands },
    )

    pub other_page : (u : List ℕ) (page : ℕ) (place : Place) → IsPageAt (width_of s) after d u page place ↔ IsPageAt (width_of s) rows d u page place
    other_page u page place = (
      λ is. record { first = is.first; extents = is.extents; has_shard = (other_shard u is.first is.extents).0 is.has_shard; has_page = is.has_page },
      λ is. record { first = is.first; extents = is.extents; has_shard = (other_shard u is.first is.extents).1 is.has_shard; has_page = is.has_page },
    )

    other_object : (u : List ℕ) → IsName u → HasObject rows d u → HasObject after d u
    other_object u named has = (ap is_some (colls_same d apart) ∙ has.0, ap is_some (onode_same u named) ∙ has.1)

  pub bits_same : (r : ℕ) → finite.get after (bitmap_key r) ≡ finite.get rows (bitmap_key r)
  bits_same r = kept (bitmap_key r) (bits_apart c r) (no_blob y.unshared 0x62 _ (λ e. omega (arith, e)))

  -- ---- blobs

  -- rows of blobs that the collection didn't name are as they were
  pub blob_as_before : (sbid : ℕ) → sbid < 2 ^ 64 → (IsNamedBy (width_of s) rows c sbid → ⊥)
      → finite.get after (shared_key sbid) ≡ finite.get rows (shared_key sbid)
  blob_as_before sbid low none = elim (left_or_none sbid y.unshared) [
    | inl empty ↦ a.gets.blobs sbid low ∙ ap (blob_after (width_of s) (finite.get rows (shared_key sbid))) empty
    | inr one ↦ absurd (none (subst (IsNamedBy (width_of s) rows c) one.2 (left_named (width_of s) rows c layouts a.has y a.reached one.0 one.1)))
  ]

  -- a page that stands on a slot stood there
  pub stood_on : (o : List ℕ) (page sbid index : ℕ) → finite.get (or_empty (now o)).pages page ≡ Some (slot sbid index)
      → finite.get (or_new (y.layout o)).kept page ≡ Some (slot sbid index)
  stood_on o page sbid index is = let of : OfDraft o page (slot sbid index) = of_draft o page (slot sbid index) is in by (slot sbid index) of of.stands refl
    where
      by : (place : Place) (of : OfDraft o page place) → StandsAt units held of.draft page place → place ≡ slot sbid index
          → finite.get (or_new (y.layout o)).kept page ≡ Some (slot sbid index)
      by _ of (by_taking taking put) e = absurd cc
      by _ of (as_before place none kept) e = ap (λ x. finite.get (or_new x).kept page) of.there ∙ kept ∙ ap Some e

  pub was_on : (o : List ℕ) → IsName o → (page sbid index : ℕ) → finite.get (or_new (y.layout o)).kept page ≡ Some (slot sbid index)
      → IsPageAt (width_of s) rows c o page (slot sbid index)
  was_on o name page sbid index is = by (y.layout o) refl is
    where
      by : (x : Option Draft) → y.layout o ≡ x → finite.get (or_new x).kept page ≡ Some (slot sbid index)
          → IsPageAt (width_of s) rows c o page (slot sbid index)
      by None p e = nowhere page (slot sbid index) e
      by (Some d) p e = (map_was o name page (slot sbid index)).0 ((object_reached o d name p).kept page (slot sbid index) e)

  -- where a page of the collection named a slot, the pages that name it are those of the collection
  pub named_here : (sbid index : ℕ) (pages : List PageName) → AreNamers (width_of s) rows sbid index pages → IsNamedBy (width_of s) rows c sbid
      → AreThose (Named c layouts sbid index) pages
  named_here sbid index pages are named = record { each = λ p. (λ k. own_name p ((are.each p).0 k), λ is. (are.each p).1 (page_at p is)); once = are.once }
    where
      own_name : (p : PageName) → IsPageAt (width_of s) rows p.coll p.object p.page (slot sbid index) → Named c layouts sbid index p
      own_name p at =
          let home = one_home s rows a.good p.coll c sbid (page_names (width_of s) rows p.coll p.object p.page sbid index at) named in
          record {
            coll = home;
            named = at.has_shard.fits.object_name;
            stood = (map_was p.object at.has_shard.fits.object_name p.page (slot sbid index)).1
                (subst (λ d. IsPageAt (width_of s) rows d p.object p.page (slot sbid index)) home at);
          }

      page_at : (p : PageName) → Named c layouts sbid index p → IsPageAt (width_of s) rows p.coll p.object p.page (slot sbid index)
      page_at p is = subst (λ d. IsPageAt (width_of s) rows d p.object p.page (slot sbid index)) (sym is.coll)
          ((map_was p.object is.named p.page (slot sbid index)).0 is.stood)

  -- a slot on which a page stands still keeps a count
  pub slot_stays : (o : List ℕ) → IsName o → (page sbid index unit : ℕ) (x : Slot) → HasSlot (width_of s) rows sbid index unit x
      → finite.get (or_new (y.layout o)).kept page ≡ Some (slot sbid index)
      → HasSlot (width_of s) after sbid index unit (record { csum = x.csum; count = x.count - times_in (indexes_of sbid y.unshared) index })
  slot_stays o name page sbid index unit x has stands =
      let counted = a.counts sbid index unit x has in
      let named = page_names (width_of s) rows c o page sbid index (was_on o name page sbid index stands) in
      let still = a.balance sbid index counted.pages (named_here sbid index counted.pages counted.namers named) in
      let here = (still.1.each (record { coll = c; object = o; page = page })).1 (record { coll = refl; named = name; stands = stands }) in
      let low = has.has_blob.fits.number in
      slot_kept s rows after a.good sbid low (indexes_of sbid y.unshared) (a.gets.blobs sbid low) index unit x has
      (omega (arith, counting.some_page still.0 _ here, counted.count_is, still.2))

  -- so it stands on the same unit, with the checksum that is kept for it
  pub stood_same : (o : List ℕ) → IsName o → (page : ℕ) (place : Place) (on : PageUnit) → finite.get (or_new (y.layout o)).kept page ≡ Some place
      → StandsOn (width_of s) after place on → StandsOn (width_of s) rows place on
  stood_same o name page (own unit csum) on kept stands = stands
  stood_same o name page (slot sbid index) on kept stands =
      let was = page_slot s rows a.good c o page sbid index (was_on o name page sbid index kept) in
      let old : PageUnit = record { unit = was.unit; csum = was.is.csum } in
      let still : StandsOn (width_of s) after (slot sbid index) old = (_, (slot_stays o name page sbid index was.unit was.is was.has_slot kept, refl)) in
      subst (StandsOn (width_of s) rows (slot sbid index)) (one_unit (width_of s) after (slot sbid index) old on still stands) (was.is, (was.has_slot, refl))

  -- the blobs of other collections' pages are as they were
  other_blob : (d o : List ℕ) (page sbid index : ℕ) → d ≢ c → IsPageAt (width_of s) rows d o page (slot sbid index)
      → finite.get after (shared_key sbid) ≡ finite.get rows (shared_key sbid)
  other_blob d o page sbid index apart at =
      let named = page_names (width_of s) rows d o page sbid index at in
      blob_as_before sbid (page_slot s rows a.good d o page sbid index at).has_slot.has_blob.fits.number
      (λ here. apart (one_home s rows a.good d c sbid named here))

  pub others_stand : (d o : List ℕ) (page : ℕ) (place : Place) (on : PageUnit) → d ≢ c → IsPageAt (width_of s) rows d o page place
      → StandsOn (width_of s) after place on ↔ StandsOn (width_of s) rows place on
  others_stand d o page (own unit csum) on apart at = (λ is. is, λ is. is)
  others_stand d o page (slot sbid index) on apart at =
      let same = other_blob d o page sbid index apart at in (
        λ is. (is.0, (slot_still (width_of s) after rows sbid index on.unit is.0 (sym same) is.1.0, is.1.1)),
        λ is. (is.0, (slot_still (width_of s) rows after sbid index on.unit is.0 same is.1.0, is.1.1)),
      )

  -- the slot of each page is there
  slot_at : (d o : List ℕ) (page sbid index : ℕ) → IsPageAt (width_of s) after d o page (slot sbid index) → HasSome (width_of s) after sbid index
  slot_at d o page sbid index at = elim (equal_or_not d c) [
    | inl e ↦
        let name = at.has_shard.fits.object_name in
        let mine = subst (λ z. IsPageAt (width_of s) after z o page (slot sbid index)) e at in
        let kept = stood_on o page sbid index ((map_now o name page (slot sbid index)).1 mine) in
        let was = page_slot s rows a.good c o page sbid index (was_on o name page sbid index kept) in
        record { unit = was.unit; is = _; has_slot = slot_stays o name page sbid index was.unit was.is was.has_slot kept }
    | inr apart ↦
        let before = (other_page d at.has_shard.fits.coll_name apart o page (slot sbid index)).0 at in
        let was = page_slot s rows a.good d o page sbid index before in
        let same = other_blob d o page sbid index apart before in
        record { unit = was.unit; is = was.is; has_slot = slot_still (width_of s) rows after sbid index was.unit was.is same was.has_slot }
  ]

  -- shards name what they named
  ascend_now : (u : List ℕ) (page : ℕ) (es : List Extent) → HasShard (width_of s) after c u page es → ExtentsAscend es
  ascend_now u page es has = let name = has.fits.object_name in by name (a.gets.objects u name).shards
    where
      by : (name : IsName u) → GetsShards (width_of s) rows after c u (or_empty (layouts u)).pages (or_empty (now u)).pages → ExtentsAscend es
      by name (stay e same) = (in_place s rows (shard c u page es) a.good (shard_was u name same page es has)).ascend
      by name (cut apart are) = cut_ascend s after c u (or_empty (now u)).pages a.coll name (fit u name) are page es has

  pub named_was : (d : List ℕ) (sbid : ℕ) → IsNamedBy (width_of s) after d sbid → IsNamedBy (width_of s) rows d sbid
  named_was d sbid named = elim (equal_or_not d c) [
    | inl e ↦ subst (λ z. IsNamedBy (width_of s) rows z sbid) (sym e) (own_named (subst (λ z. IsNamedBy (width_of s) after z sbid) e named))
    | inr apart ↦ record {
      object = named.object;
      page = named.page;
      extents = named.extents;
      has_shard = (other_shard d named.has_shard.fits.coll_name apart named.object named.page named.extents).0 named.has_shard;
      names = named.names;
    }
  ]
    where
      own_named : IsNamedBy (width_of s) after c sbid → IsNamedBy (width_of s) rows c sbid
      own_named named =
          let on = named_page (width_of s) after c sbid named (ascend_now named.object named.page named.extents named.has_shard) in
          let name = on.at.has_shard.fits.object_name in
          page_names (width_of s) rows c on.object on.page sbid on.index (was_on on.object name on.page sbid on.index
          (stood_on on.object on.page sbid on.index ((map_now on.object name on.page (slot sbid on.index)).1 on.at)))

  -- so each page's place has what it wants, and each shard the slots that it wants
  place_has : (d o : List ℕ) (page : ℕ) (place : Place) → IsPageAt (width_of s) after d o page place → HasPlace (width_of s) after d place
  place_has d o page (own unit csum) at = tt
  place_has d o page (slot sbid index) at =
      let is = slot_at d o page sbid index at in
      let was = named_was d sbid (page_names (width_of s) after d o page sbid index at) in (
        ap is_some is.has_slot.has_blob.stands,
        λ unit slots row. slot_inside (width_of s) after sbid index is.unit unit is.is slots is.has_slot row,
        λ earlier. less_apart earlier.coll d earlier.before (one_home s rows a.good earlier.coll d sbid (named_was earlier.coll sbid earlier.named) was),
      )

  shard_slots : (d u : List ℕ) (page : ℕ) (es : List Extent) → HasShard (width_of s) after d u page es → ExtentsAscend es
      → AllByRecursion (λ e. HasSlots (width_of s) after d e.body) es
  shard_slots d u page es has ascend = places_have (width_of s) after d es ascend has.fits.fit
      (λ p place is. place_has d u p place (record { first = page; extents = es; has_shard = has; has_page = is }))

  -- ---- all are in their places

  -- an object with a value is there
  value_there : (u : List ℕ) (k : ValueKey) (value : List ℕ) → IsName u → IsValueKey k → finite.get after (value_key c u k) ≡ Some value → HasObject after c u
  value_there u k value name named is =
      let some = (a.reached.values u k value name named (sym (a.gets.values u k name named) ∙ is)).1 in
      (coll_there u name some, onode_there u name some)

  own_shard_placed : (u : List ℕ) (page : ℕ) (es : List Extent) → IsName u → HasShard (width_of s) after c u page es → IsShardInPlace s after c u page es
  own_shard_placed u page es name has = by (a.gets.objects u name).shards
    where
      -- a page of it stands, so it is there
      a_page : (place : Place) × (finite.get (or_empty (now u)).pages page ≡ Some place)
      a_page =
          let found = some_page (width_of s) es page has.fits.begins has.fits.fit in
          (found.0, (map_now u name page found.0).1 (record { first = page; extents = es; has_shard = has; has_page = found.1 }))

      there_by : (x : Option Draft) → (place : Place) → finite.get (or_empty (option_map (laid units held) x)).pages page ≡ Some place → is_some x ≡ true
      there_by None place is = nowhere page place is
      there_by (Some d) place is = refl

      is_there : is_some (y.layout u) ≡ true
      is_there = there_by (y.layout u) a_page.0 a_page.1

      -- all of them are pages that it has
      within_now : (n : ℕ) → HasOnode after c u n → (p : ℕ) (place : Place) → IsPageAt (width_of s) after c u p place → p < pages_of n
      within_now n h p place at =
          let of = of_onode u name n h in
          subst (λ m. p < pages_of m) (now_size u of.0 of.1 ∙ of.2) (now_good u name p place ((map_now u name p place).1 at)).within

      by : GetsShards (width_of s) rows after c u (or_empty (layouts u)).pages (or_empty (now u)).pages → IsShardInPlace s after c u page es
      by (stay e same) =
          let was = in_place s rows (shard c u page es) a.good (shard_was u name same page es has) in
          record {
            has_collection = coll_there u name is_there;
            has_onode = onode_there u name is_there;
            ascend = was.ascend;
            behind = λ earlier fs below h. was.behind earlier fs below (shard_was u name same earlier fs h);
            within = λ n h. ends_within (width_of s) es (pages_of n) has.fits.fit
                (λ p place is. within_now n h p place (record { first = page; extents = es; has_shard = has; has_page = is }));
            on_data = was.on_data;
            slots = shard_slots c u page es has was.ascend;
          }
      by (cut apart are) = new_in_place s after c u (or_empty (now u)).pages a.coll name (fit u name) are (coll_there u name is_there)
          (onode_there u name is_there)
          (λ n h. ends_within (width_of s) (extents u) (pages_of n) (fit u name)
          (λ p place is. within_now n h p place ((map_now u name p place).0 (sym (places_at (now u) p) ∙ is))))
          (layout_on_data s (now u) (now_most u name) (now_good u name) (now_fits u name)) page es has
          (shard_slots c u page es has (cut_ascend s after c u (or_empty (now u)).pages a.coll name (fit u name) are page es has))

  placed : (x : Row) → HasRow (width_of s) after x → IsInPlace s after x
  placed (collection d) has = tt
  placed (onode d u n) has = elim (equal_or_not d c) [
    | inl e ↦
        let mine : HasOnode after c u n = subst (λ z. HasOnode after z u n) e has in
        let of = of_onode u has.fits.1 n mine in (
          subst (λ z. HasKey after (coll_key z)) (sym e) (coll_there u has.fits.1 (ap is_some of.1)),
          subst (λ m. m ≤ object_limit) of.2 (object_reached u of.0 has.fits.1 of.1).most,
        )
    | inr apart ↦
        let was = in_place s rows (onode d u n) a.good ((other_onode d has.fits.0 apart u n).0 has) in
        (ap is_some (colls_same d apart) ∙ was.0, was.1)
  ]
  placed (shard d u page es) has = elim (equal_or_not d c) [
    | inl e ↦ subst (λ z. IsShardInPlace s after z u page es) (sym e)
        (own_shard_placed u page es has.fits.object_name (subst (λ z. HasShard (width_of s) after z u page es) e has))
    | inr apart ↦
        let coll_is = has.fits.coll_name in
        let was = in_place s rows (shard d u page es) a.good ((other_shard d coll_is apart u page es).0 has) in
        record {
          has_collection = ap is_some (colls_same d apart) ∙ was.has_collection;
          has_onode = ap is_some (onode_same d coll_is apart u has.fits.object_name) ∙ was.has_onode;
          ascend = was.ascend;
          behind = λ earlier fs below h. was.behind earlier fs below ((other_shard d coll_is apart u earlier fs).0 h);
          within = λ n h. was.within n ((other_onode d coll_is apart u n).0 h);
          on_data = was.on_data;
          slots = shard_slots d u page es has was.ascend;
        }
  ]
  placed (format.attribute d u n value) has = elim (equal_or_not d c) [
    | inl e ↦ subst (λ z. HasObject after z u) (sym e) (value_there u (attribute n) value has.fits.object_name has.fits.named
        (ap (λ z. finite.get after (attr_key z u n)) (sym e) ∙ has.stands))
    | inr apart ↦ other_object d has.fits.coll_name apart u has.fits.object_name (in_place s rows (format.attribute d u n value) a.good
        (record { fits = has.fits; stands = sym (value_same d has.fits.coll_name apart u has.fits.object_name (attribute n)) ∙ has.stands }))
  ]
  placed (omap_header d u value) has = elim (equal_or_not d c) [
    | inl e ↦ subst (λ z. HasObject after z u) (sym e) (value_there u header value has.fits.object_name tt
        (ap (λ z. finite.get after (header_key z u)) (sym e) ∙ has.stands))
    | inr apart ↦ other_object d has.fits.coll_name apart u has.fits.object_name (in_place s rows (omap_header d u value) a.good
        (record { fits = has.fits; stands = sym (value_same d has.fits.coll_name apart u has.fits.object_name header) ∙ has.stands }))
  ]
  placed (omap_pair d u q value) has = elim (equal_or_not d c) [
    | inl e ↦ subst (λ z. HasObject after z u) (sym e) (value_there u (pair q) value has.fits.object_name has.fits.named
        (ap (λ z. finite.get after (omap_key z u q)) (sym e) ∙ has.stands))
    | inr apart ↦ other_object d has.fits.coll_name apart u has.fits.object_name (in_place s rows (omap_pair d u q value) a.good
        (record { fits = has.fits; stands = sym (value_same d has.fits.coll_name apart u has.fits.object_name (pair q)) ∙ has.stands }))
  ]
  placed (blob sbid first slots) has =
      blob_placed s rows after a.good sbid has.fits.number (indexes_of sbid y.unshared) (a.gets.blobs sbid has.fits.number) first slots has
  placed (bitmap r bits) has = in_place s rows (bitmap r bits) a.good (record { fits = has.fits; stands = sym (bits_same r) ∙ has.stands })

  -- a row by its key and its value
  good_row : (key value : List ℕ) (x : Row) → finite.get after key ≡ Some value → FitsRow (width_of s) x → key ≡ row_key x
      → value ≡ row_value (width_of s) x → IsGoodRow s after key value
  good_row key value x stands fits key_is value_is = record {
    row = x;
    fits = fits;
    key_is = key_is;
    value_is = value_is;
    in_place = placed x (record { fits = fits; stands = ap (λ k. finite.get after k) (sym key_is) ∙ stands ∙ ap Some value_is });
  }

  own_good : (key value : List ℕ) (x : Row) → finite.get after key ≡ Some value → HasRow (width_of s) after x → key ≡ row_key x → IsGoodRow s after key value
  own_good key value x stands has key_is =
      let e : Some value ≡ Some (row_value (width_of s) x) = sym stands ∙ ap (λ k. finite.get after k) key_is ∙ has.stands in
      good_row key value x stands has.fits key_is cc

  still_good : (key value : List ℕ) → finite.get after key ≡ Some value → finite.get after key ≡ finite.get rows key → IsGoodRow s after key value
  still_good key value stands same = let g = a.good key value (sym same ∙ stands) in good_row key value g.row stands g.fits g.key_is g.value_is

  coll_good : (key value : List ℕ) → finite.get after key ≡ Some value → key ≡ coll_key c → IsGoodRow s after key value
  coll_good key value stands e = by y.there refl
    where
      by : (b : Bool) → y.there ≡ b → IsGoodRow s after key value
      by false p = absurd (let t = sym stands ∙ ap (finite.get after) e ∙ a.gets.coll ∙ ap (λ b. cond b (Some []) None) p in cc)
      by true p =
          let t : Some value ≡ Some [] = sym stands ∙ ap (finite.get after) e ∙ a.gets.coll ∙ ap (λ b. cond b (Some []) None) p in
          good_row key value (collection c) stands a.coll e cc

  onode_good : (o key value : List ℕ) → IsName o → finite.get after key ≡ Some value → key ≡ onode_key c o → IsGoodRow s after key value
  onode_good o key value name stands e = by (now o) refl
    where
      by : (z : Option Layout) → now o ≡ z → IsGoodRow s after key value
      by None p =
          let none : finite.get after (onode_key c o) ≡ None = subst (HasLayout (width_of s) after c o) p (has_now o name) in
          absurd (let t = sym stands ∙ ap (finite.get after) e ∙ none in cc)
      by (Some l) p =
          let has : HasLayout (width_of s) after c o (Some l) = subst (HasLayout (width_of s) after c o) p (has_now o name) in
          own_good key value (onode c o l.size) stands has.0 e

  shard_good : (o key value : List ℕ) (page : ℕ) → page < 2 ^ 32 → IsName o → finite.get after key ≡ Some value → key ≡ shard_key c o page
      → IsGoodRow s after key value
  shard_good o key value page lt name stands e = by (a.gets.objects o name).shards
    where
      anew : AreCut (width_of s) after c o (or_empty (now o)).pages → (z : Option (List Extent))
          → shard_at (shards_of (width_of s) (Some shard_limit) (extents o)) page ≡ z → IsGoodRow s after key value
      anew are None p = absurd (let t = sym stands ∙ ap (finite.get after) e ∙ are page lt ∙ ap (option_map (shard_bytes (width_of s))) p in cc)
      anew are (Some es) p = own_good key value (shard c o page es) stands
          (has_shard s after c o (or_empty (now o)).pages a.coll name (fit o name) are page lt es p) e

      by : GetsShards (width_of s) rows after c o (or_empty (layouts o)).pages (or_empty (now o)).pages → IsGoodRow s after key value
      by (stay eq same) = still_good key value stands (ap (finite.get after) e ∙ same page lt ∙ sym (ap (finite.get rows) e))
      by (cut apart are) = anew are (shard_at (shards_of (width_of s) (Some shard_limit) (extents o)) page) refl

  value_good : (o key value : List ℕ) → IsName o → finite.get after key ≡ Some value → (k : ValueKey) → IsValueKey k → key ≡ value_key c o k
      → IsGoodRow s after key value
  value_good o key value name stands k named e = by k named e
      (a.reached.values o k value name named (sym (a.gets.values o k name named) ∙ ap (finite.get after) (sym e) ∙ stands)).0
    where
      by : (k : ValueKey) → IsValueKey k → key ≡ value_key c o k → FitsValue k value → IsGoodRow s after key value
      by (attribute n) named e fits = good_row key value (format.attribute c o n value) stands
          (record { coll_name = a.coll; object_name = name; named = named; short = fits }) e refl
      by header named e fits = good_row key value (omap_header c o value) stands
          (record { coll_name = a.coll; object_name = name; some = fits.0; short = fits.1 }) e refl
      by (pair q) named e fits = good_row key value (omap_pair c o q value) stands
          (record { coll_name = a.coll; object_name = name; named = named; short = fits }) e refl

  blob_good : (key value : List ℕ) → finite.get after key ≡ Some value → IsKeyOfSlot y.unshared key → IsGoodRow s after key value
  blob_good key value stands of = subst (λ k. IsGoodRow s after k value) (sym of.is)
      (blob_row_good s rows after a.good of.sbid of.small (indexes_of of.sbid y.unshared) (a.gets.blobs of.sbid of.small) value
      (ap (finite.get after) (sym of.is) ∙ stands))

  coll_rows_good : (key value : List ℕ) → finite.get after key ≡ Some value → IsKeyOfColl c key → IsGoodRow s after key value
  coll_rows_good key value stands its = elim its [
    | inl e ↦ coll_good key value stands e
    | inr of ↦ elim of.2 [
      | inl rows_key ↦ elim rows_key [
        | inl e ↦ onode_good of.0 key value of.1 stands e
        | inr p ↦ shard_good of.0 key value p.0 p.1 of.1 stands p.2
      ]
      | inr its ↦ value_good of.0 key value of.1 stands its.of its.named its.is
    ]
  ]

  pub drafted_good : NoBadRow s after
  drafted_good key value stands = elim (a.gets.others key) [
    | inr same ↦ still_good key value stands same
    | inl its ↦ elim its [ inl mine ↦ coll_rows_good key value stands mine | inr of ↦ blob_good key value stands of ]
  ]

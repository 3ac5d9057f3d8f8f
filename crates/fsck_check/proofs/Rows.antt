-- The pages of the rows before a place, in their order.
use Rattle.std.proofs.Common.{◌≡◌, ◌⊎◌, inl, inr, ℕ, ◌+◌, ◌<◌, ◌≤◌, List, [], ◌∷◌, ◌++◌, length, get_or, map, refl, sym, ap, subst, ◌∙◌, arith}
use Rattle.std.specs.Ordering.{ordering_then}
use Rattle.std.specs.declared.cmp.Ordering.{Ordering}
use Rattle.std.specs.declared.cmp.Ordering.TheVariants.{Less, Equal, Greater}
use Rattle.std.proofs.lemmas.Bool.{cases_lt}
use Rattle.byte_maps.specs.ByteMap.{byte_order}
use Rattle.byte_maps.proofs.Prelude.{same_bytes}
use Rattle.std.specs.Int.{w32, to_be_bytes}
use Rattle.unit_fields.specs.Prelude.{IsName, IsCollName}
use Rattle.unit_fields.proofs.CollNames.{no_zero_in_coll}
use Rattle.unit_fields.specs.declared.width.Width.{Width}
use Rattle.meta_rows.specs.Prelude.{Rows}
use Rattle.meta_log.specs.declared.slot.Super.{Super}
use Rattle.meta_log.specs.Prelude.{width_of}
use Rattle.row_format.specs.Prelude.{shard_key, Extent, Place, place_of, shard}
use Rattle.row_format.specs.Row as format
use Rattle.row_format.proofs.Prelude.{is_shard_or_none}
use Rattle.store_image.specs.Prelude.{HasRow, HasShard, IsShardInPlace, IsPageAt, PageUnit, StandsOn, IsPageOn, NoBadRow}
use Rattle.store_image.proofs.Prelude.{in_place, one_place, some_unit}
use Rattle.row_reading.specs.Reading.{SpellsRow}
use Rattle.row_reading.proofs.Entries.{AreRows, rising}
use Rattle.row_reading.proofs.KeyOrder.{lesser_page}
use Rattle.object_rows.proofs.NamesOrder.{ended}
use Rattle.plan_rows.specs.Prelude.{page_unit}
use Rattle.plan_rows.proofs.PlaceUnits.{unit_is}
use Rattle.row_check.proofs.Walk.{has_spelled}
use Rattle.row_check.proofs.MarkedRows.{RowAt, same_spelled, row_ascends}
use Rattle.row_check.proofs.RunMarks.{page_below, page_of_shard}
use Rattle.ordered_lists.specs.Lists.{ListsAll}
use Rattle.ordered_lists.proofs.Joining.{lists_none, lists_joined, lists_as}
use Rattle.findings.specs.Findings.{PageSum, ComesBefore}
use Rattle.fsck_check.specs.Sums.{row_places}
use Rattle.fsck_check.proofs.Pages.{unit_sum, shard_pages, places_are, InShard, shard_lists}

-- ---- rows

module _ (w : Width) (rows : Rows) where
  abbrev pub row_pages : format.Row → List PageSum
  row_pages row = shard_pages w rows (format.shard_in row).coll (format.shard_in row).object (format.shard_in row).extents

  pub row_places_are : (row : format.Row) → map unit_sum (row_pages row) ≡ row_places w rows row
  row_places_are row = places_are w rows (format.shard_in row).coll (format.shard_in row).object (format.shard_in row).extents

  abbrev pub InRow : format.Row → PageSum → Type 0
  InRow row = InShard w rows (format.shard_in row).coll (format.shard_in row).object (format.shard_in row).extents

  -- then the row is a shard
  in_shard : (row : format.Row) (p : PageSum) → InRow row p → row ≡ format.as_row (format.shard_in row)
  in_shard row p has = elim (is_shard_or_none row) [
    | inl is ↦ is
    | inr none ↦ absurd (let found = sym (ap (λ (x : format.ShardRow). place_of x.extents p.page) none) ∙ has.at in cc)
  ]

  -- the page is one of a row before this place
  pub record InRowsTo (es : List (List ℕ × List ℕ)) (i : ℕ) (p : PageSum) : Type 0 where
    pub at : ℕ
    pub before : at < i
    pub within : at < length es
    pub row : format.Row
    pub stands : RowAt w es at row
    pub has : InRow row p

  pub none_yet : (es : List (List ℕ × List ℕ)) → ListsAll ComesBefore (InRowsTo es 0) []
  none_yet es = lists_none ComesBefore (InRowsTo es 0) (λ p is. omega (arith, is.before))

-- ---- names in keys

then_less : (a b : Ordering) → ordering_then a b ≡ Less → (a ≡ Less) ⊎ ((a ≡ Equal) × (b ≡ Less))
then_less Less b is = inl refl
then_less Equal b is = inr (refl, is)
then_less Greater b is = absurd cc

-- the keys of two shards are in the order of the names, and where these are the same in that of the pages
keys_ordered : (c o d u : List ℕ) (page other : ℕ) → IsCollName c → IsName o → IsCollName d → IsName u → byte_order (shard_key c o page) (shard_key d u other) ≡ Less
    → (byte_order c d ≡ Less) ⊎ ((c ≡ d) × ((byte_order o u ≡ Less) ⊎ (o ≡ u)))
keys_ordered c o d u page other coll name coll2 name2 less =
    let ones : List ℕ = 0x6f ∷ to_be_bytes w32 page ++ 0x78 ∷ [] in
    let others : List ℕ = 0x6f ∷ to_be_bytes w32 other ++ 0x78 ∷ [] in
    let colls : ordering_then (byte_order c d) (byte_order (o ++ 0 ∷ ones) (u ++ 0 ∷ others)) ≡ Less =
    sym (ended c d (o ++ 0 ∷ ones) (u ++ 0 ∷ others) (no_zero_in_coll c coll) (no_zero_in_coll d coll2)) ∙ less in
    elim (then_less (byte_order c d) (byte_order (o ++ 0 ∷ ones) (u ++ 0 ∷ others)) colls) [
      | inl before ↦ inl before
      | inr same ↦ inr (
        same_bytes c d same.0,
        elim (then_less (byte_order o u) (byte_order ones others) (sym (ended o u ones others name.no_zero name2.no_zero) ∙ same.1)) [
          | inl before ↦ inl before
          | inr also ↦ inr (same_bytes o u also.0)
        ],
      )
    ]

module _ (s : Super) (rows : Rows) (good : NoBadRow s rows) where
  placed : (c o : List ℕ) (page : ℕ) (es : List Extent) → HasShard (width_of s) rows c o page es → IsShardInPlace s rows c o page es
  placed c o page es has = in_place s rows (shard c o page es) good has

  -- by the place of a page the unit on which it stands
  stands_there : (c o : List ℕ) (page : ℕ) (place : Place) (on : PageUnit) → IsPageAt (width_of s) rows c o page place
      → page_unit (width_of s) rows place ≡ on → IsPageOn (width_of s) rows c o page on
  stands_there c o page place on at is =
      let some = some_unit s rows good c o page place at in
      let same : some.1.place ≡ place = one_place s rows good c o page some.1.place place some.1.at at in
      let stands = subst (λ z. StandsOn (width_of s) rows z some.0) same some.1.stands in
      let unit = sym (unit_is (width_of s) rows place some.0 stands) ∙ is in
      record { place = place; at = at; stands = subst (StandsOn (width_of s) rows place) unit stands }

  -- the pages of a shard come before those of a later one
  shards_apart : (c o d u : List ℕ) (page other : ℕ) (es fs : List Extent) (x y : PageSum) → HasShard (width_of s) rows c o page es → HasShard (width_of s) rows d u other fs
      → byte_order (shard_key c o page) (shard_key d u other) ≡ Less → InShard (width_of s) rows c o es x → InShard (width_of s) rows d u fs y → ComesBefore x y
  shards_apart c o d u page other es fs x y has later less p q =
      elim (keys_ordered c o d u page other has.fits.coll_name has.fits.object_name later.fits.coll_name later.fits.object_name less) [
        | inl coll ↦ inl (subst (λ n. byte_order n y.coll ≡ Less) (sym p.coll) (subst (λ n. byte_order c n ≡ Less) (sym q.coll) coll))
        | inr same ↦ elim same.1 [
          | inl name ↦ inr (p.coll ∙ same.0 ∙ sym q.coll, inl (subst (λ n. byte_order n y.object ≡ Less) (sym p.object) (subst (λ n. byte_order o n ≡ Less) (sym q.object) name)))
          | inr name ↦
              let key : byte_order (shard_key c o page) (shard_key c o other) ≡ Less =
              subst (λ n. byte_order (shard_key c o page) (shard_key c n other) ≡ Less) (sym name) (subst (λ n. byte_order (shard_key c o page) (shard_key n u other) ≡ Less) (sym same.0) less) in
              let lt : page < other = lesser_page c o has.fits.coll_name has.fits.object_name page other has.fits.page_below later.fits.page_below key in
              let there : HasShard (width_of s) rows d u page es = subst (λ n. HasShard (width_of s) rows d n page es) name (subst (λ n. HasShard (width_of s) rows n o page es) same.0 has) in
              let place = placed d u other fs later in
              let below : x.page < other = page_below es x.page other p.place p.at (place.behind page es lt there) in
              let from : other ≤ y.page = page_of_shard fs y.page other q.place q.at later.fits.begins place.ascend in
              inr (p.coll ∙ same.0 ∙ sym q.coll, inr (p.object ∙ name ∙ sym q.object, omega (arith, below, from)))
        ]
      ]

  rows_apart : (a b : format.Row) (x y : PageSum) → HasRow (width_of s) rows a → HasRow (width_of s) rows b → byte_order (format.row_key a) (format.row_key b) ≡ Less
      → InRow (width_of s) rows a x → InRow (width_of s) rows b y → ComesBefore x y
  rows_apart a b x y has later less p q =
      let a_is = in_shard (width_of s) rows a x p in
      let b_is = in_shard (width_of s) rows b y q in
      shards_apart _ _ _ _ _ _ _ _ x y (subst (HasRow (width_of s) rows) a_is has) (subst (HasRow (width_of s) rows) b_is later)
      (sym (λ i. byte_order (format.row_key (a_is i)) (format.row_key (b_is i))) ∙ less) p q

  pub row_lists : (row : format.Row) → HasRow (width_of s) rows row → ListsAll ComesBefore (InRow (width_of s) rows row) (row_pages (width_of s) rows row)
  row_lists row has = shard_lists (width_of s) rows (format.shard_in row).coll (format.shard_in row).object (format.shard_in row).extents (row_ascends s rows good row has)

  module _ (es : List (List ℕ × List ℕ)) (are : AreRows rows es) (i : ℕ) where
    -- the pages of one row more
    pub one_row_more : (row : format.Row) (pages : List PageSum) → i < length es → RowAt (width_of s) es i row → ListsAll ComesBefore (InRowsTo (width_of s) rows es i) pages
        → ListsAll ComesBefore (InRowsTo (width_of s) rows es (i + 1)) (pages ++ row_pages (width_of s) rows row)
    one_row_more row pages within stands so_far =
        let has : HasRow (width_of s) rows row = has_spelled (width_of s) rows es are i ([], []) row within (stands ([], [])) in
        lists_joined ComesBefore (InRowsTo (width_of s) rows es i) (InRow (width_of s) rows row) (InRowsTo (width_of s) rows es (i + 1)) pages (row_pages (width_of s) rows row) so_far (row_lists row has)
        (λ x y p q.
        let earlier : HasRow (width_of s) rows p.row = has_spelled (width_of s) rows es are p.at ([], []) p.row p.within (p.stands ([], [])) in
        let keys = rising es p.at i ([], []) ([], []) are.sorted p.before within in
        rows_apart p.row row x y earlier has
        (subst (λ k. byte_order k (format.row_key row) ≡ Less) (p.stands ([], [])).key_is (subst (λ k. byte_order (get_or es p.at ([], [])).0 k ≡ Less) (stands ([], [])).key_is keys))
        p.has q)
        (λ x p. record { at = p.at; before = omega (arith, p.before); within = p.within; row = p.row; stands = p.stands; has = p.has })
        (λ x q. record { at = i; before = omega arith; within = within; row = row; stands = stands; has = q })
        (λ x p. elim (cases_lt p.at i) [
          | inl lt ↦ inl (record { at = p.at; before = lt; within = p.within; row = p.row; stands = p.stands; has = p.has })
          | inr ge ↦
              let here : p.at ≡ i = omega (arith, ge, p.before) in
              let there = subst (λ n. SpellsRow (width_of s) (get_or es n ([], [])).0 (get_or es n ([], [])).1 p.row) here (p.stands ([], [])) in
              inr (subst (λ (r : format.Row). InRow (width_of s) rows r x) (same_spelled (width_of s) _ _ p.row row there (stands ([], []))) p.has)
        ])

    -- at the end they are all pages that stand on units
    pub record IsMapped (p : PageSum) : Type 0 where
      pub on : IsPageOn (width_of s) rows p.coll p.object p.page (record { unit = p.unit; csum = p.kept })
      pub fresh : p.found ≡ 0

    mapped : (p : PageSum) → InRowsTo (width_of s) rows es i p → IsMapped p
    mapped p is =
        let q = is.has in
        let has = has_spelled (width_of s) rows es are is.at ([], []) is.row is.within (is.stands ([], [])) in
        let there = subst (HasRow (width_of s) rows) (in_shard (width_of s) rows is.row p q) has in
        let c = (format.shard_in is.row).coll in
        let o = (format.shard_in is.row).object in
        record {
          on = subst (λ n. IsPageOn (width_of s) rows n p.object p.page (record { unit = p.unit; csum = p.kept })) (sym q.coll)
              (subst (λ n. IsPageOn (width_of s) rows c n p.page (record { unit = p.unit; csum = p.kept })) (sym q.object)
              (stands_there c o p.page q.place (record { unit = p.unit; csum = p.kept }) (record {
                first = (format.shard_in is.row).page;
                extents = (format.shard_in is.row).extents;
                has_shard = there;
                has_page = q.at;
              }) q.on));
          fresh = q.fresh;
        }

    unmapped : length es ≤ i → (p : PageSum) → IsMapped p → InRowsTo (width_of s) rows es i p
    unmapped le p is =
        let at = is.on.at in
        let has = at.has_shard in
        let where_it_is = are.stands (format.row_key (shard p.coll p.object at.first at.extents)) (format.row_value (width_of s) (shard p.coll p.object at.first at.extents)) has.stands in
        record {
          at = where_it_is.at;
          before = omega (arith, where_it_is.within, le);
          within = where_it_is.within;
          row = shard p.coll p.object at.first at.extents;
          stands = λ d. subst (λ (e : List ℕ × List ℕ). SpellsRow (width_of s) e.0 e.1 (shard p.coll p.object at.first at.extents)) (sym (where_it_is.is d)) (record { fits = has.fits; key_is = refl; value_is = refl });
          has = record {
            coll = refl;
            object = refl;
            place = is.on.place;
            at = at.has_page;
            on = unit_is (width_of s) rows is.on.place (record { unit = p.unit; csum = p.kept }) is.on.stands;
            fresh = is.fresh;
          };
        }

    pub all_mapped : length es ≤ i → (pages : List PageSum) → ListsAll ComesBefore (InRowsTo (width_of s) rows es i) pages → ListsAll ComesBefore IsMapped pages
    all_mapped le pages so_far = lists_as ComesBefore (InRowsTo (width_of s) rows es i) IsMapped pages (λ p. (mapped p, unmapped le p)) so_far

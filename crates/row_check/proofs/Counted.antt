-- How many pages name a slot, of the rows that were gone through.
use Rattle.std.proofs.Common.{◌≡◌, ◌⊎◌, ◌↔◌, inl, inr, true, ℕ, ◌+◌, ◌<◌, ◌≤◌, ◌^◌, List, [], ◌∷◌, ◌++◌, length, get_or, Option, Some, None, refl, sym, ap, subst, ◌∙◌, arith}
use Rattle.std.specs.Prelude.{Contains, IsSome}
use Rattle.std.specs.List.{AllByRecursion}
use Rattle.std.specs.declared.cmp.Ordering.TheVariants.{Less}
use Rattle.std.specs.FinMap as map
use Rattle.std.proofs.lemmas.Bool.{cases_lt}
use Rattle.std.proofs.lemmas.Cmp.{tied_itself, nat_list_cmp_total}
use Rattle.std.proofs.lemmas.List.{length-append}
use Rattle.std.proofs.lemmas.List.Elements.{Contains-append_left, Contains-append_right, Contains-append_cases}
use Rattle.byte_maps.specs.ByteMap.{byte_order}
use Rattle.unit_fields.specs.declared.width.Width.{Width}
use Rattle.meta_rows.specs.Prelude.{Rows}
use Rattle.meta_log.specs.declared.slot.Super.{Super}
use Rattle.meta_log.specs.Prelude.{width_of}
use Rattle.row_format.specs.Prelude.{shared_key, shard_key, Body, private, shared, Extent, FitsExtent, FitsBody, place_of, slot, Slot, blob, shard}
use Rattle.row_format.specs.Row as format
use Rattle.row_format.proofs.Prelude.{is_shard_or_none}
use Rattle.store_image.specs.Prelude.{HasRow, HasShard, HasSlots, IsPageAt, NoBadRow, PageName, Names, EachOnce, IsCounted}
use Rattle.store_image.proofs.Prelude.{in_place, blob_there, shard_placed}
use Rattle.row_reading.specs.Reading.{SpellsRow}
use Rattle.row_reading.proofs.Entries.{AreRows, rising}
use Rattle.row_check.specs.Tallies.{Tally, no_tally, Tallies, HasTallyOf, HasPlaces, RowHasPlaces, SpellsSomeRow, IsTalliedOn, HasTally, AreTallies, HasBlobRow, IsUncounted, AreUnnamed, AreTallied, extents_tallied}
use Rattle.row_check.proofs.Walk.{has_spelled}
use Rattle.row_check.proofs.Naming.{extent_names, PageNames, names_there, there_names, once_joined, names_once, AllRaised, RaisedBy, LeadTo, still_leads, extents_raised}
use Rattle.onode_codec.specs.Reading.{SpellExtents}
use Rattle.onode_codec.proofs.Again.{same_extents}
use Rattle.row_check.specs.Owned.{TellsShard}
use Rattle.row_check.proofs.MarkedRows.{RowAt, one_shard, spelled_shard, row_ascends, same_spelled, at_here, here_at, has_here, good_here, spelled_here}

-- the pages of a row that name the slot
abbrev RowNames : format.Row → ℕ → ℕ → PageName → Type 0
RowNames row sbid k p = PageNames (format.shard_in row).coll (format.shard_in row).object (format.shard_in row).extents sbid k p

abbrev row_names : format.Row → ℕ → ℕ → List PageName
row_names row sbid k = extent_names (format.shard_in row).coll (format.shard_in row).object (format.shard_in row).extents sbid k

-- then the row is a shard
names_shard : (row : format.Row) (sbid k : ℕ) (p : PageName) → RowNames row sbid k p → row ≡ format.as_row (format.shard_in row)
names_shard row sbid k p names = elim (is_shard_or_none row) [
  | inl is ↦ is
  | inr none ↦ absurd (let found = sym (ap (λ (x : format.ShardRow). place_of x.extents p.page) none) ∙ names.found in cc)
]

-- the extents that a shard's value spells
pub spelled_extents : (w : Width) (key value : List ℕ) (es : List Extent) (row : format.Row) → TellsShard w key value true → SpellExtents w value es
    → SpellsRow w key value row → es ≡ (format.shard_in row).extents
spelled_extents w key value es row told spelled s =
    same_extents w value es (format.shard_in row).extents spelled (spelled_shard w key value row ((told row s).0 refl) s)

-- a row before this place has the page, which names the slot
record NamesBefore (w : Width) (es : List (List ℕ × List ℕ)) (i sbid k : ℕ) (p : PageName) : Type 0 where
  at : ℕ
  before : at < i
  within : at < length es
  row : format.Row
  stands : RowAt w es at row
  names : RowNames row sbid k p

-- so many pages of the rows before this place name the slot
pub record CountedTo (w : Width) (es : List (List ℕ × List ℕ)) (i sbid k n : ℕ) : Type 0 where
  pages : List PageName
  each : (p : PageName) → Contains pages p ↔ NamesBefore w es i sbid k p
  once : EachOnce pages
  count_is : length pages ≡ n

none_in : (p : PageName) → Contains [] p → ⊥
none_in p (k, lt, is) = omega (arith, lt)

pub none_counted : (w : Width) (es : List (List ℕ × List ℕ)) (sbid k n : ℕ) → IsUncounted sbid k n → CountedTo w es 0 sbid k n
none_counted w es sbid k n zero = record {
  pages = [];
  each = λ p. (λ is. absurd (none_in p is), λ b. absurd (omega (arith, b.before)));
  once = tt;
  count_is = sym zero;
}

tallies_as : (w : Width) (rows : Rows) (There : ℕ → Type 0) (C D : ℕ → ℕ → ℕ → Type 0) (t : Tallies) → ((sbid k n : ℕ) → C sbid k n → D sbid k n)
    → AreTallies w rows There C t → AreTallies w rows There D t
tallies_as w rows There C D t to old = record {
  has = λ at within.
      let tally = old.has at within in
      record { has_blob = tally.has_blob; each = tally.each; counted = λ k lt. to (get_or t.list at no_tally).sbid k (get_or (get_or t.list at no_tally).named k 0) (tally.counted k lt) };
  places = old.places;
  only = old.only;
  all = old.all;
}

module _ (s : Super) (rows : Rows) (good : NoBadRow s rows) where
  abbrev w : Width
  w = width_of s

  -- the rows that have a page have one key
  named_key : (r t : format.Row) (sbid k : ℕ) (p : PageName) → HasRow w rows r → HasRow w rows t → RowNames r sbid k p → RowNames t sbid k p
      → format.row_key r ≡ format.row_key t
  named_key r t sbid k p a b x y =
      let r_is = names_shard r sbid k p x in
      let t_is = names_shard t sbid k p y in
      let coll : (format.shard_in r).coll ≡ (format.shard_in t).coll = sym x.coll ∙ y.coll in
      let object : (format.shard_in r).object ≡ (format.shard_in t).object = sym x.object ∙ y.object in
      let mine : HasShard w rows (format.shard_in r).coll (format.shard_in r).object (format.shard_in r).page (format.shard_in r).extents = subst (HasRow w rows) r_is a in
      let here = subst (λ (c : List ℕ). HasShard w rows c (format.shard_in t).object (format.shard_in r).page (format.shard_in r).extents) coll
      (subst (λ (o : List ℕ). HasShard w rows (format.shard_in r).coll o (format.shard_in r).page (format.shard_in r).extents) object mine) in
      let page = one_shard s rows good (format.shard_in t).coll (format.shard_in t).object (format.shard_in r).page (format.shard_in t).page
      (format.shard_in r).extents (format.shard_in t).extents p.page (slot sbid k) (slot sbid k) here (subst (HasRow w rows) t_is b) x.found y.found in
      ap format.row_key r_is ∙ (λ i. shard_key (coll i) (object i) (page i)) ∙ sym (ap format.row_key t_is)

  module _ (es : List (List ℕ × List ℕ)) (are : AreRows rows es) where
    -- ---- one row more

    module _ (i : ℕ) (x : List ℕ × List ℕ) (key value : List ℕ) (l : i < length es) (is : x ≡ get_or es i x) (k_is : key ≡ x.0) (v_is : value ≡ x.1) where
      abbrev here : format.Row
      here = (good_here s rows good es are i x key value l is k_is v_is).row

      spells : SpellsRow w key value here
      spells = spelled_here s rows good es are i x key value l is k_is v_is

      pub row_spelled : SpellsSomeRow w key value
      row_spelled = (here, spells)

      has : HasRow w rows here
      has = has_here s rows good es are i x key value l is k_is v_is here spells

      stands : RowAt w es i here
      stands = at_here s rows good es are i x key value l is k_is v_is here spells

      fresh : (sbid k : ℕ) (p : PageName) → NamesBefore w es i sbid k p → RowNames here sbid k p → ⊥
      fresh sbid k p b names =
          let earlier : HasRow w rows b.row = has_spelled w rows es are b.at x b.row b.within (b.stands x) in
          let same = named_key b.row here sbid k p earlier has b.names names in
          let keys : (get_or es b.at x).0 ≡ (get_or es i x).0 = (b.stands x).key_is ∙ same ∙ sym ((stands x).key_is) in
          let tied = tied_itself nat_list_cmp_total (get_or es i x).0 in
          let itself = subst (λ z. byte_order z (get_or es i x).0 ≡ Less) keys (rising es b.at i x x are.sorted b.before l) in cc

      more : (sbid k : ℕ) (p : PageName) → (NamesBefore w es i sbid k p ⊎ RowNames here sbid k p) ↔ NamesBefore w es (i + 1) sbid k p
      more sbid k p = (
        λ q. elim q [
          | inl b ↦ record { at = b.at; before = omega (arith, b.before); within = b.within; row = b.row; stands = b.stands; names = b.names }
          | inr n ↦ record { at = i; before = omega arith; within = l; row = here; stands = stands; names = n }
        ],
        λ b. elim (cases_lt b.at i) [
          | inl lt ↦ inl (record { at = b.at; before = lt; within = b.within; row = b.row; stands = b.stands; names = b.names })
          | inr ge ↦
              let at : b.at ≡ i = omega (arith, ge, b.before) in
              let spelled = here_at s rows good es are i x key value l is k_is v_is b.row (subst (λ n. RowAt w es n b.row) at b.stands) in
              inr (subst (λ (r : format.Row). RowNames r sbid k p) (same_spelled w key value b.row here spelled spells) b.names)
        ],
      )

      counted_more : (sbid k n : ℕ) → CountedTo w es i sbid k n → CountedTo w es (i + 1) sbid k (n + length (row_names here sbid k))
      counted_more sbid k n old =
          let c = (format.shard_in here).coll in
          let o = (format.shard_in here).object in
          let fs = (format.shard_in here).extents in
          let up = row_ascends s rows good here has in
          record {
            pages = old.pages ++ row_names here sbid k;
            each = λ p. (
              λ in_both. (more sbid k p).0 (elim (Contains-append_cases old.pages (row_names here sbid k) p in_both) [
                | inl in_old ↦ inl ((old.each p).0 in_old)
                | inr in_new ↦ inr (names_there c o sbid k fs up p in_new)
              ]),
              λ b. elim ((more sbid k p).1 b) [
                | inl before ↦ Contains-append_left old.pages (row_names here sbid k) p ((old.each p).1 before)
                | inr names ↦ Contains-append_right old.pages (row_names here sbid k) p (there_names c o sbid k fs p names)
              ],
            );
            once = once_joined old.pages (row_names here sbid k) old.once (names_once c o sbid k fs up)
                (λ p in_old in_new. fresh sbid k p ((old.each p).0 in_old) (names_there c o sbid k fs up p in_new));
            count_is = length-append old.pages (row_names here sbid k) ∙ ap (λ m. m + length (row_names here sbid k)) old.count_is;
          }

      -- ---- the tallies

      module _ (t : Tallies) (old : AreTallies w rows (HasBlobRow w rows) (CountedTo w es i) t) where
        has_place : (sbid first count : ℕ) → sbid < 2 ^ 64 → HasSlots w rows (format.shard_in here).coll (shared sbid first count) → HasTallyOf t sbid (first + count)
        has_place sbid first count low slots =
            let there = blob_there s rows sbid low good (map.get rows (shared_key sbid)) refl slots.0 in
            let at = old.all sbid (there.0, there.1.0, there.1.1) in
            let tally = old.has at.0 at.1.0 in
            let is_blob : HasRow w rows (blob sbid (get_or t.list at.0 no_tally).first (get_or t.list at.0 no_tally).slots) =
            subst (λ n. HasRow w rows (blob n (get_or t.list at.0 no_tally).first (get_or t.list at.0 no_tally).slots)) at.1.1 tally.has_blob in
            record {
              at = at.0;
              is = ap (λ n. map.get t.places (shared_key n)) (sym at.1.1) ∙ old.places at.0 at.1.0;
              within = at.1.0;
              sbid_is = at.1.1;
              wide = omega (arith, tally.each, slots.1 (get_or t.list at.0 no_tally).first (get_or t.list at.0 no_tally).slots is_blob);
            }

        body_places : (b : Body) → FitsBody w b → HasSlots w rows (format.shard_in here).coll b → HasPlaces t b
        body_places (private unit csums) fits slots = tt
        body_places (shared sbid first count) fits slots = has_place sbid first count fits.0 slots

        all_places : (fs : List Extent) → AllByRecursion (FitsExtent w) fs → AllByRecursion (λ e. HasSlots w rows (format.shard_in here).coll e.body) fs
            → AllByRecursion (λ e. HasPlaces t e.body) fs
        all_places [] fit slots = tt
        all_places (e ∷ fs) fit slots = (body_places e.body fit.0.body slots.0, all_places fs fit.1 slots.1)

        here_places : AllByRecursion (λ e. HasPlaces t e.body) (format.shard_in here).extents
        here_places = elim (is_shard_or_none here) [
          | inl is ↦ all_places (format.shard_in here).extents (subst (format.FitsRow w) is spells.fits).fit
              (shard_placed s rows here is (in_place s rows here good has)).slots
          | inr none ↦ subst (λ (r : format.ShardRow). AllByRecursion (λ e. HasPlaces t e.body) r.extents) (sym none) tt
        ]

        pub row_places : RowHasPlaces w key value t
        row_places row sp = subst (λ (r : format.Row). AllByRecursion (λ e. HasPlaces t e.body) (format.shard_in r).extents) (same_spelled w key value here row spells sp) here_places

        pub row_tallied : (new : Tallies) → IsTalliedOn w key value t new → AreTallies w rows (HasBlobRow w rows) (CountedTo w es (i + 1)) new
        row_tallied new on =
            let c = (format.shard_in here).coll in
            let o = (format.shard_in here).object in
            let fs = (format.shard_in here).extents in
            let next = extents_tallied t fs in
            let named_more : AllRaised t next (λ sbid k. length (row_names here sbid k)) = extents_raised c o fs t old.places here_places in
            subst (AreTallies w rows (HasBlobRow w rows) (CountedTo w es (i + 1))) (sym (on here spells)) (record {
              has = λ at within.
                  let was : at < length t.list = omega (arith, within, named_more.size) in
                  let a : Tally = get_or t.list at no_tally in
                  let b : Tally = get_or next.list at no_tally in
                  let one : RaisedBy a b (λ k. length (row_names here a.sbid k)) = named_more.each at was in
                  let tally : HasTally w rows (CountedTo w es i) a = old.has at was in
                  record {
                    has_blob = subst (HasRow w rows) (λ j. blob (sym one.sbid j) (sym one.first j) (sym one.slots j)) tally.has_blob;
                    each = one.size ∙ tally.each ∙ sym (ap length one.slots);
                    counted = λ k lt.
                        let inside : k < length a.slots = omega (arith, lt, ap length one.slots) in
                        let count : get_or b.named k 0 ≡ get_or a.named k 0 + length (row_names here a.sbid k) = one.named k (omega (arith, inside, tally.each)) in
                        subst (λ n. CountedTo w es (i + 1) n k (get_or b.named k 0)) (sym one.sbid)
                        (subst (CountedTo w es (i + 1) a.sbid k) (sym count) (counted_more a.sbid k (get_or a.named k 0) (tally.counted k inside)));
                  };
              places = still_leads c o t next (λ sbid k. length (row_names here sbid k)) named_more old.places;
              only = λ at within.
                  let was : at < length t.list = omega (arith, within, named_more.size) in
                  subst (HasBlobRow w rows) (sym (named_more.each at was).sbid) (old.only at was);
              all = λ sbid there. let a = old.all sbid there in (a.0, (omega (arith, a.1.0, named_more.size), (named_more.each a.0 a.1.0).sbid ∙ a.1.1));
            })

    -- ---- all rows

    module _ (i : ℕ) (end : length es ≤ i) (sbid k : ℕ) where
      named_before : (p : PageName) → NamesBefore w es i sbid k p → Names w rows sbid k p
      named_before p b =
          let row = b.row in
          let has : HasRow w rows row = has_spelled w rows es are b.at ([], []) row b.within (b.stands ([], [])) in
          let mine : HasShard w rows (format.shard_in row).coll (format.shard_in row).object (format.shard_in row).page (format.shard_in row).extents =
          subst (HasRow w rows) (names_shard row sbid k p b.names) has in
          record {
            first = (format.shard_in row).page;
            extents = (format.shard_in row).extents;
            has_shard = subst (λ (c : List ℕ). HasShard w rows c p.object (format.shard_in row).page (format.shard_in row).extents) (sym b.names.coll)
                (subst (λ (o : List ℕ). HasShard w rows (format.shard_in row).coll o (format.shard_in row).page (format.shard_in row).extents) (sym b.names.object) mine);
            has_page = b.names.found;
          }

      before_named : (p : PageName) → Names w rows sbid k p → NamesBefore w es i sbid k p
      before_named p at =
          let page : IsPageAt w rows p.coll p.object p.page (slot sbid k) = at in
          let found = are.stands _ _ page.has_shard.stands in
          record {
            at = found.at;
            before = omega (arith, found.within, end);
            within = found.within;
            row = shard p.coll p.object page.first page.extents;
            stands = λ d. record {
              fits = page.has_shard.fits;
              key_is = ap (λ (e : List ℕ × List ℕ). e.0) (found.is d);
              value_is = ap (λ (e : List ℕ × List ℕ). e.1) (found.is d);
            };
            names = record { coll = refl; object = refl; found = page.has_page };
          }

      counted_all : (n : ℕ) → CountedTo w es i sbid k n → IsCounted w rows sbid k n
      counted_all n old = record {
        pages = old.pages;
        namers = record { each = λ p. (λ in_old. named_before p ((old.each p).0 in_old), λ names. (old.each p).1 (before_named p names)); once = old.once };
        count_is = old.count_is;
      }

    pub all_tallied : (i : ℕ) → length es ≤ i → (t : Tallies) → AreTallies w rows (HasBlobRow w rows) (CountedTo w es i) t → AreTallied w rows t
    all_tallied i end t old = tallies_as w rows (HasBlobRow w rows) (CountedTo w es i) (IsCounted w rows) t (counted_all i end) old

    pub start_tallied : (t : Tallies) → AreUnnamed w rows t → AreTallies w rows (HasBlobRow w rows) (CountedTo w es 0) t
    start_tallied t old = tallies_as w rows (HasBlobRow w rows) IsUncounted (CountedTo w es 0) t (none_counted w es) old

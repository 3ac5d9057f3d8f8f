-- What the marks of the rows that were gone through tell.
use Rattle.std.proofs.Common.{◌≡◌, ◌⊎◌, ◌↔◌, inl, inr, ℕ, ◌+◌, ◌<◌, ◌≤◌, true, false, List, [], ◌∷◌, length, get_or, replicate, Option, Some, None, MatchOption, refl, sym, ap, subst, ◌∙◌, arith}
use Rattle.std.specs.Prelude.{slice_get}
use Rattle.std.specs.List.{AllByRecursion}
use Rattle.std.specs.declared.cmp.Ordering.TheVariants.{Less}
use Rattle.std.specs.FinMap as map
use Rattle.std.proofs.lemmas.Bool.{cases_lt, cases_eq, cases_Bool}
use Rattle.std.proofs.lemmas.Cmp.{tied_itself, nat_list_cmp_total}
use Rattle.std.proofs.lemmas.List.{get_or-replicate, get_or_past, length-replicate}
use Rattle.byte_maps.specs.ByteMap.{byte_order}
use Rattle.unit_fields.specs.declared.width.Width.{Width}
use Rattle.meta_rows.specs.Prelude.{Rows}
use Rattle.meta_log.specs.declared.slot.Super.{Super}
use Rattle.meta_log.specs.Prelude.{width_of}
use Rattle.row_format.specs.Prelude.{shard_key, shared_key, Body, private, shared, Extent, ExtentsAscend, Place, own, place_of, Slot, shard, blob}
use Rattle.row_format.specs.Row as format
use Rattle.row_format.proofs.Prelude.{same_row, is_shard_or_none}
use Rattle.store_image.specs.Prelude.{HasRow, HasShard, IsPageAt, HasSlot, IsOnData, IsShardInPlace, IsGoodRow, NoBadRow, Owner, page_of, slot_of, Owns}
use Rattle.store_image.proofs.Prelude.{in_place, equal_or_not, shard_placed}
use Rattle.row_reading.specs.declared.row.Row as read
use Rattle.row_reading.specs.declared.row.Row.TheVariants as variants
use Rattle.row_reading.specs.Reading.{format_row, SpellsRow, IsNoRow}
use Rattle.onode_codec.specs.Reading.{SpellExtents}
use Rattle.row_check.specs.Marks.{Marks, no_marks, extents_marked, slots_marked, BlobRow, blob_in, AddsMarks, EndsBlobBy, EndsBy, AllEndBy, RowEndsBy, SpellExtentsBelow}
use Rattle.row_check.specs.Tallies.{BeginsBlob}
use Rattle.row_check.specs.Owned.{MarksOwners, AreMarkedOn, SpellsRowWithin, TellsShard}
use Rattle.row_reading.proofs.Entries.{AreRows, rising, entry_is}
use Rattle.row_check.proofs.Walk.{has_spelled}
use Rattle.row_check.proofs.OneMark.{Tells, HasUnits, tells_same}
use Rattle.row_check.proofs.RunMarks.{ExtentsOwn, SlotsOwn, RowOwns, RowAscends, owns_shard, owns_blob, is_blob_or_none, row_tells, row_units, page_below, page_of_shard}

-- the row stands at this place
abbrev pub RowAt : Width → List (List ℕ × List ℕ) → ℕ → format.Row → Type 0
RowAt w es j row = (d : List ℕ × List ℕ) → SpellsRow w (get_or es j d).0 (get_or es j d).1 row

-- a row before this place has a page on the unit
pub record OwnsBefore (w : Width) (es : List (List ℕ × List ℕ)) (i : ℕ) (a : Owner) (v : ℕ) : Type 0 where
  pub at : ℕ
  pub before : at < i
  pub within : at < length es
  pub row : format.Row
  pub stands : RowAt w es at row
  pub owns : RowOwns row a v

-- the rows before this place are marked, over so many units
pub record MarkedTo (w : Width) (es : List (List ℕ × List ℕ)) (i units : ℕ) (m : Marks) : Type 0 where
  pub told : Tells (OwnsBefore w es i) m
  pub has : HasUnits units m

-- ---- at the start

no_mark : (n v : ℕ) → get_or (replicate n false) v false ≡ false
no_mark n v = elim (cases_lt v n) [
  | inl lt ↦ get_or-replicate n v false false lt
  | inr ge ↦ get_or_past (replicate n false) v false (omega (arith, ge, length-replicate n false))
]

pub none_marked : (w : Width) (es : List (List ℕ × List ℕ)) (units : ℕ) → MarkedTo w es 0 units (no_marks units)
none_marked w es units = record {
  told = record {
    owned = λ v. ((λ is. let no = no_mark units v in absurd cc), (λ q. absurd (omega (arith, q.1.before))));
    shared = λ v. ((λ is. let no = no_mark units v in absurd cc), (λ t. absurd (omega (arith, t.first.before))));
  };
  has = record { owned = length-replicate units false; shared = length-replicate units false };
}

-- ---- one row

-- the value of a row that is a shard spells its extents
pub spelled_shard : (w : Width) (key value : List ℕ) (row : format.Row) → row ≡ format.as_row (format.shard_in row) → SpellsRow w key value row
    → SpellExtents w value (format.shard_in row).extents
spelled_shard w key value row is s =
    let here : SpellsRow w key value (format.as_row (format.shard_in row)) = subst (SpellsRow w key value) is s in
    record { fit = here.fits.fit; spelled = here.value_is }

-- the pages of a row that is a shard are marked, and another row has none
pub shard_below : (w : Width) (key value : List ℕ) (units : ℕ) → SpellsRowWithin w key value units → TellsShard w key value true
    → SpellExtentsBelow w value units
shard_below w key value units within told = record {
  extents = (format.shard_in within.row).extents;
  spelled = spelled_shard w key value within.row ((told within.row within.spells).0 refl) within.spells;
  below = within.within.0;
}

pub shard_marked : (w : Width) (key value : List ℕ) (old new : Marks) → TellsShard w key value true
    → ((es : List Extent) → SpellExtents w value es → new ≡ extents_marked old es) → AreMarkedOn w key value old new
shard_marked w key value old new told all row s =
    let is = (told row s).0 refl in
    all (format.shard_in row).extents (spelled_shard w key value row is s)
    ∙ ap (λ (b : BlobRow). slots_marked (extents_marked old (format.shard_in row).extents) b.first b.slots) (sym (ap blob_in is))

-- a row that is no shard has no extents
no_extents : (w : Width) (key value : List ℕ) (row : format.Row) → TellsShard w key value false → SpellsRow w key value row → format.shard_in row ≡ format.no_shard
no_extents w key value row told s = elim (is_shard_or_none row) [
  | inl is ↦ absurd (let never = (told row s).1 is in cc)
  | inr none ↦ none
]

-- nor slots, if its key isn't a blob's
pub no_row_marked : (w : Width) (key value : List ℕ) (old : Marks) → TellsShard w key value false → ¬ BeginsBlob key → AreMarkedOn w key value old old
no_row_marked w key value old told other row s = elim (is_blob_or_none row) [
  | inl is ↦ absurd (other (_, s.key_is ∙ ap format.row_key is))
  | inr none ↦ sym (ap (λ (b : BlobRow). slots_marked (extents_marked old (format.shard_in row).extents) b.first b.slots) none
      ∙ ap (λ (x : format.ShardRow). extents_marked old x.extents) (no_extents w key value row told s))
]

pub same_spelled : (w : Width) (key value : List ℕ) (a b : format.Row) → SpellsRow w key value a → SpellsRow w key value b → a ≡ b
same_spelled w key value a b p q = same_row w a b p.fits q.fits (sym p.key_is ∙ q.key_is) (sym p.value_is ∙ q.value_is)

-- a page is no slot
page_no_slot : (c o : List ℕ) (page sbid index : ℕ) → page_of c o page ≡ slot_of sbid index → ⊥
page_no_slot c o page sbid index e = cc

-- the row that was read is the one that is spelled
blob_units : (units : ℕ) (row : read.Row) (value : List ℕ) → (blob_in (format_row row value)).first + length (blob_in (format_row row value)).slots ≤ units
    → EndsBlobBy units (Some row)
blob_units units (variants.Collection d) value ends = tt
blob_units units (variants.Onode d u size) value ends = tt
blob_units units (variants.Shard d u page es) value ends = tt
blob_units units (variants.Attribute d u n) value ends = tt
blob_units units (variants.OmapHeader d u) value ends = tt
blob_units units (variants.OmapPair d u k) value ends = tt
blob_units units (variants.Blob sbid first slots) value ends = ends
blob_units units (variants.Bitmap r bits) value ends = tt

pub read_ends : (w : Width) (key value : List ℕ) (units : ℕ) (found : Option read.Row) → SpellsRowWithin w key value units
    → MatchOption found (IsNoRow w key value) (λ row. SpellsRow w key value (format_row row value)) → EndsBlobBy units found
read_ends w key value units None within none = tt
read_ends w key value units (Some row) within is =
    blob_units units row value (subst (λ (r : format.Row). (blob_in r).first + length (blob_in r).slots ≤ units)
    (same_spelled w key value within.row (format_row row value) within.spells is) within.within.1)

blob_by : (row : read.Row) (value : List ℕ) (old new : Marks) → AddsMarks (Some row) old new
    → new ≡ slots_marked old (blob_in (format_row row value)).first (blob_in (format_row row value)).slots
blob_by (variants.Collection d) value old new is = is
blob_by (variants.Onode d u size) value old new is = is
blob_by (variants.Shard d u page es) value old new is = is
blob_by (variants.Attribute d u n) value old new is = is
blob_by (variants.OmapHeader d u) value old new is = is
blob_by (variants.OmapPair d u k) value old new is = is
blob_by (variants.Blob sbid first slots) value old new is = is
blob_by (variants.Bitmap r bits) value old new is = is

pub read_marked : (w : Width) (key value : List ℕ) (old new : Marks) (found : Option read.Row) → TellsShard w key value false
    → MatchOption found (IsNoRow w key value) (λ row. SpellsRow w key value (format_row row value)) → AddsMarks found old new
    → AreMarkedOn w key value old new
read_marked w key value old new None told none is row s = absurd (none row s)
read_marked w key value old new (Some r) told found is row s =
    let same : format_row r value ≡ row = same_spelled w key value (format_row r value) row found s in
    blob_by r value old new is ∙ ap (λ (x : format.Row). slots_marked old (blob_in x).first (blob_in x).slots) same
    ∙ sym (ap (λ (x : format.ShardRow). slots_marked (extents_marked old x.extents) (blob_in row).first (blob_in row).slots) (no_extents w key value row told s))

body_ends : (s : Super) (body : Body) → IsOnData s body → EndsBy s.units body
body_ends s (private unit csums) on = on.1
body_ends s (shared sbid first count) on = tt

all_end : (s : Super) (es : List Extent) → AllByRecursion (λ e. IsOnData s e.body) es → AllEndBy s.units es
all_end s [] all = tt
all_end s (e ∷ es) all = (body_ends s e.body all.0, all_end s es all.1)

module _ (s : Super) (rows : Rows) (good : NoBadRow s rows) where
  blob_ends : (sbid first : ℕ) (slots : List Slot) → HasRow (width_of s) rows (blob sbid first slots) → first + length slots ≤ s.units
  blob_ends sbid first slots has = (in_place s rows (blob sbid first slots) good has).on_data.1

  row_ends : (row : format.Row) → HasRow (width_of s) rows row → RowEndsBy s.units row
  row_ends row has = (
    elim (is_shard_or_none row) [
      | inl is ↦ all_end s (format.shard_in row).extents (shard_placed s rows row is (in_place s rows row good has)).on_data
      | inr none ↦ subst (λ (x : format.ShardRow). AllEndBy s.units x.extents) (sym none) tt
    ],
    elim (is_blob_or_none row) [
      | inl is ↦ blob_ends (blob_in row).sbid (blob_in row).first (blob_in row).slots (subst (HasRow (width_of s) rows) is has)
      | inr none ↦ subst (λ (x : BlobRow). x.first + length x.slots ≤ s.units) (sym none) (omega arith)
    ],
  )

  pub row_ascends : (row : format.Row) → HasRow (width_of s) rows row → RowAscends row
  row_ascends row has = elim (is_shard_or_none row) [
    | inl is ↦ (shard_placed s rows row is (in_place s rows row good has)).ascend
    | inr none ↦ subst (λ (x : format.ShardRow). ExtentsAscend x.extents) (sym none) tt
  ]

  not_before : (c o : List ℕ) (first other : ℕ) (es fs : List Extent) (page : ℕ) (a b : Place) → HasShard (width_of s) rows c o first es
      → HasShard (width_of s) rows c o other fs → place_of es page ≡ Some a → place_of fs page ≡ Some b → first < other → ⊥
  not_before c o first other es fs page a b has later x y lt =
      let place : IsShardInPlace s rows c o other fs = in_place s rows (shard c o other fs) good later in
      omega (arith, page_below es page other a x (place.behind first es lt has), page_of_shard fs page other b y later.fits.begins place.ascend)

  -- a page is in one shard
  pub one_shard : (c o : List ℕ) (first other : ℕ) (es fs : List Extent) (page : ℕ) (a b : Place) → HasShard (width_of s) rows c o first es
      → HasShard (width_of s) rows c o other fs → place_of es page ≡ Some a → place_of fs page ≡ Some b → first ≡ other
  one_shard c o first other es fs page a b p q x y = elim (cases_lt first other) [
    | inl lt ↦ absurd (not_before c o first other es fs page a b p q x y lt)
    | inr ge ↦ elim (cases_lt other first) [
      | inl lt ↦ absurd (not_before c o other first fs es page b a q p y x lt)
      | inr le ↦ omega (arith, ge, le)
    ]
  ]

  owned_key : (c o d u : List ℕ) (first other : ℕ) (es fs : List Extent) (a : Owner) (v w : ℕ) → HasShard (width_of s) rows c o first es
      → HasShard (width_of s) rows d u other fs → ExtentsOwn c o es a v → ExtentsOwn d u fs a w → shard_key c o first ≡ shard_key d u other
  owned_key c o d u first other es fs a v w p q x y =
      let same : page_of c o x.page ≡ page_of d u y.page = sym x.owner_is ∙ y.owner_is in
      let coll : c ≡ d = coll_of same in
      let object : o ≡ u = object_of same in
      let page : x.page ≡ y.page = number_of same in
      let here = subst (λ k. HasShard (width_of s) rows k u first es) coll (subst (λ k. HasShard (width_of s) rows c k first es) object p) in
      let e = one_shard d u first other es fs y.page (own v x.csum) (own w y.csum) here q
      (subst (λ n. place_of es n ≡ Some (own v x.csum)) page x.found) y.found in
      λ i. shard_key (coll i) (object i) (e i)
    where
      coll_of : {i j : ℕ} → page_of c o i ≡ page_of d u j → c ≡ d
      coll_of e = cc

      object_of : {i j : ℕ} → page_of c o i ≡ page_of d u j → o ≡ u
      object_of e = cc

      number_of : {i j : ℕ} → page_of c o i ≡ page_of d u j → i ≡ j
      number_of e = cc

  -- a slot is of one blob
  slot_key : (sbid first other second : ℕ) (xs ys : List Slot) (a : Owner) (v w : ℕ) → SlotsOwn sbid 0 first xs a v → SlotsOwn other 0 second ys a w
      → shared_key sbid ≡ shared_key other
  slot_key sbid first other second xs ys a v w x y = ap shared_key (blob_of (sym x.owner_is ∙ y.owner_is))
    where
      blob_of : {i j : ℕ} → slot_of sbid i ≡ slot_of other j → sbid ≡ other
      blob_of e = cc

  -- the rows that an owner stands in have one key
  same_key : (r t : format.Row) (a : Owner) (v w : ℕ) → HasRow (width_of s) rows r → HasRow (width_of s) rows t → RowOwns r a v → RowOwns t a w
      → format.row_key r ≡ format.row_key t
  same_key r t a v w p q (inl x) (inl y) =
      let r_is = owns_shard r a v x in
      let t_is = owns_shard t a w y in
      ap format.row_key r_is
      ∙ owned_key _ _ _ _ _ _ _ _ a v w (subst (HasRow (width_of s) rows) r_is p) (subst (HasRow (width_of s) rows) t_is q) x y
      ∙ sym (ap format.row_key t_is)
  same_key r t a v w p q (inl x) (inr y) = absurd (page_no_slot _ _ _ _ _ (sym x.owner_is ∙ y.owner_is))
  same_key r t a v w p q (inr x) (inl y) = absurd (page_no_slot _ _ _ _ _ (sym y.owner_is ∙ x.owner_is))
  same_key r t a v w p q (inr x) (inr y) =
      ap format.row_key (owns_blob r a v x) ∙ slot_key _ _ _ _ _ _ a v w x y ∙ sym (ap format.row_key (owns_blob t a w y))

  module _ (es : List (List ℕ × List ℕ)) (are : AreRows rows es) (i : ℕ) (x : List ℕ × List ℕ) (key value : List ℕ) (l : i < length es)
      (is : x ≡ get_or es i x) (k : key ≡ x.0) (v : value ≡ x.1) where
    pub pair : (d : List ℕ × List ℕ) → get_or es i d ≡ (key, value)
    pair = entry_is es i x key value l is k v

    -- the row at this place
    pub at_here : (row : format.Row) → SpellsRow (width_of s) key value row → RowAt (width_of s) es i row
    at_here row spells d = subst (λ (e : List ℕ × List ℕ). SpellsRow (width_of s) e.0 e.1 row) (sym (pair d)) spells

    pub here_at : (row : format.Row) → RowAt (width_of s) es i row → SpellsRow (width_of s) key value row
    here_at row at = subst (λ (e : List ℕ × List ℕ). SpellsRow (width_of s) e.0 e.1 row) (pair x) (at x)

    pub has_here : (row : format.Row) → SpellsRow (width_of s) key value row → HasRow (width_of s) rows row
    has_here row spells = has_spelled (width_of s) rows es are i x row l (at_here row spells x)

    -- the row at this place is good
    pub good_here : IsGoodRow s rows key value
    good_here = good key value (subst (λ (e : List ℕ × List ℕ). map.get rows e.0 ≡ Some e.1) (pair x) (are.has i x l))

    pub spelled_here : SpellsRow (width_of s) key value good_here.row
    spelled_here = record { fits = good_here.fits; key_is = good_here.key_is; value_is = good_here.value_is }

    pub spells_within : SpellsRowWithin (width_of s) key value s.units
    spells_within =
        record { row = good_here.row; spells = spelled_here; within = row_ends good_here.row (has_here good_here.row spelled_here) }

    fresh : (row : format.Row) → SpellsRow (width_of s) key value row → (a : Owner) (u w : ℕ) → RowOwns row a u → OwnsBefore (width_of s) es i a w → ⊥
    fresh row spells a u w owns b =
        let earlier : HasRow (width_of s) rows b.row = has_spelled (width_of s) rows es are b.at x b.row b.within (b.stands x) in
        let same = same_key b.row row a w u earlier (has_here row spells) b.owns owns in
        let keys : (get_or es b.at x).0 ≡ (get_or es i x).0 = (b.stands x).key_is ∙ same ∙ sym ((at_here row spells x).key_is) in
        let tied = tied_itself nat_list_cmp_total (get_or es i x).0 in
        let itself = subst (λ z. byte_order z (get_or es i x).0 ≡ Less) keys (rising es b.at i x x are.sorted b.before l) in cc

    -- what is owned before the next place
    more : (row : format.Row) → SpellsRow (width_of s) key value row → (a : Owner) (u : ℕ)
        → (OwnsBefore (width_of s) es i a u ⊎ RowOwns row a u) ↔ OwnsBefore (width_of s) es (i + 1) a u
    more row spells a u = (
      λ q. elim q [
        | inl b ↦ record { at = b.at; before = omega (arith, b.before); within = b.within; row = b.row; stands = b.stands; owns = b.owns }
        | inr owns ↦ record { at = i; before = omega arith; within = l; row = row; stands = at_here row spells; owns = owns }
      ],
      λ b. elim (cases_lt b.at i) [
        | inl lt ↦ inl (record { at = b.at; before = lt; within = b.within; row = b.row; stands = b.stands; owns = b.owns })
        | inr ge ↦
            let here : b.at ≡ i = omega (arith, ge, b.before) in
            let owned = here_at b.row (subst (λ n. RowAt (width_of s) es n b.row) here b.stands) in
            inr (subst (λ r. RowOwns r a u) (same_spelled (width_of s) key value b.row row owned spells) b.owns)
      ],
    )

    pub row_step : (m new : Marks) → MarkedTo (width_of s) es i s.units m → AreMarkedOn (width_of s) key value m new
        → MarkedTo (width_of s) es (i + 1) s.units new
    row_step m new old on =
        let row = good_here.row in
        let has = has_here row spelled_here in
        subst (MarkedTo (width_of s) es (i + 1) s.units) (sym (on row spelled_here)) (record {
          told = tells_same _ _ _ (more row spelled_here)
              (row_tells row (OwnsBefore (width_of s) es i) m s.units old.told old.has (row_ends row has) (row_ascends row has)
              (fresh row spelled_here));
          has = row_units s.units row m old.has;
        })

-- ---- all rows

pub same_or_not : (a b : Owner) → (a ≡ b) ⊎ (a ≡ b → ⊥)
same_or_not (page_of c o p) (slot_of sbid index) = inr (page_no_slot c o p sbid index)
same_or_not (slot_of sbid index) (page_of c o p) = inr (λ e. page_no_slot c o p sbid index (sym e))
same_or_not (slot_of s i) (slot_of t j) = elim (cases_eq s t) [
  | inr apart ↦ inr (λ e. apart (sbid_of e))
  | inl sbid ↦ elim (cases_eq i j) [
    | inl index ↦ inl (λ k. slot_of (sbid k) (index k))
    | inr apart ↦ inr (λ e. apart (index_of e))
  ]
]
  where
    sbid_of : slot_of s i ≡ slot_of t j → s ≡ t
    sbid_of e = cc

    index_of : slot_of s i ≡ slot_of t j → i ≡ j
    index_of e = cc
same_or_not (page_of c o p) (page_of d u q) = elim (equal_or_not c d) [
  | inr apart ↦ inr (λ e. apart (coll_of e))
  | inl coll ↦ elim (equal_or_not o u) [
    | inr apart ↦ inr (λ e. apart (object_of e))
    | inl object ↦ elim (cases_eq p q) [
      | inl page ↦ inl (λ i. page_of (coll i) (object i) (page i))
      | inr apart ↦ inr (λ e. apart (number e))
    ]
  ]
]
  where
    coll_of : page_of c o p ≡ page_of d u q → c ≡ d
    coll_of e = cc

    object_of : page_of c o p ≡ page_of d u q → o ≡ u
    object_of e = cc

    number : page_of c o p ≡ page_of d u q → p ≡ q
    number e = cc

module _ (s : Super) (rows : Rows) (good : NoBadRow s rows) (es : List (List ℕ × List ℕ)) (are : AreRows rows es) (i : ℕ) (end : length es ≤ i) where
  abbrev w : Width
  w = width_of s

  row_owner : (row : format.Row) (a : Owner) (v : ℕ) → HasRow w rows row → RowOwns row a v → Owns w rows a v
  row_owner row a v has (inr owns) =
      let there = subst (HasRow w rows) (owns_blob row a v owns) has in
      let number : 0 + owns.k ≡ owns.k = omega arith in
      subst (λ b. Owns w rows b v) (sym owns.owner_is) (
        owns.is,
        (
          record {
            first = (blob_in row).first;
            slots = (blob_in row).slots;
            has_blob = there;
            there = subst (λ n. slice_get (blob_in row).slots n ≡ Some owns.is) (sym number) owns.there;
            at_is = omega (arith, owns.unit_is);
          },
          owns.named,
        ),
      )
  row_owner row a v has (inl owns) =
      let there = subst (HasRow w rows) (owns_shard row a v owns) has in
      subst (λ b. Owns w rows b v) (sym owns.owner_is)
      (owns.csum, record { first = (format.shard_in row).page; extents = (format.shard_in row).extents; has_shard = there; has_page = owns.found })

  owns_of : (a : Owner) (v : ℕ) → OwnsBefore w es i a v → Owns w rows a v
  owns_of a v b = row_owner b.row a v (has_spelled w rows es are b.at ([], []) b.row b.within (b.stands ([], []))) b.owns

  before_of : (a : Owner) (v : ℕ) → Owns w rows a v → OwnsBefore w es i a v
  before_of (slot_of sbid index) v owns =
      let has : HasSlot w rows sbid index v owns.0 = owns.1.0 in
      let found = are.stands _ _ has.has_blob.stands in
      record {
        at = found.at;
        before = omega (arith, found.within, end);
        within = found.within;
        row = blob sbid has.first has.slots;
        stands = λ d. record {
          fits = has.has_blob.fits;
          key_is = ap (λ (e : List ℕ × List ℕ). e.0) (found.is d);
          value_is = ap (λ (e : List ℕ × List ℕ). e.1) (found.is d);
        };
        owns = inr (record { k = index; is = owns.0; there = has.there; named = owns.1.1; owner_is = ap (slot_of sbid) (omega arith); unit_is = has.at_is });
      }
  before_of (page_of c o page) v owns =
      let at : IsPageAt w rows c o page (own v owns.0) = owns.1 in
      let found = are.stands _ _ at.has_shard.stands in
      record {
        at = found.at;
        before = omega (arith, found.within, end);
        within = found.within;
        row = shard c o at.first at.extents;
        stands = λ d. record {
          fits = at.has_shard.fits;
          key_is = ap (λ (e : List ℕ × List ℕ). e.0) (found.is d);
          value_is = ap (λ (e : List ℕ × List ℕ). e.1) (found.is d);
        };
        owns = inl (record { page = page; csum = owns.0; owner_is = refl; found = at.has_page });
      }

  pub all_marked : (units : ℕ) (m : Marks) → MarkedTo w es i units m → MarksOwners w rows m
  all_marked units m old = record {
    owned = λ v. (
      λ is. let q = (old.told.owned v).0 is in (q.0, owns_of q.0 v q.1),
      λ owned. (old.told.owned v).1 (owned.0, before_of owned.0 v owned.1),
    );
    shared = λ v. (
      λ is sole. let t = (old.told.shared v).0 is in t.apart (sole t.a t.b (owns_of t.a v t.first) (owns_of t.b v t.second)),
      λ not_sole. elim (cases_Bool (get_or m.shared v false)) [
        | inl is ↦ is
        | inr none ↦ absurd (not_sole (λ a b p q. one v none a b p q))
      ],
    );
  }
    where
      one : (v : ℕ) → get_or m.shared v false ≡ false → (a b : Owner) → Owns w rows a v → Owns w rows b v → a ≡ b
      one v none a b p q = elim (same_or_not a b) [
        | inl e ↦ e
        | inr apart ↦
            let is = (old.told.shared v).1 (record { a = a; b = b; apart = apart; first = before_of a v p; second = before_of b v q }) in absurd cc
      ]

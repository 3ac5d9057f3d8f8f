-- The rows in the range of an object's shards are its shards, all of them, in the order of their pages.
use Rattle.std.proofs.Common.{◌≡◌, ◌≢◌, ◌⊎◌, inl, inr, ℕ, zero, suc, ◌<◌, ◌^◌, Bool, true, cond, not, T, List, [], ◌∷◌, ◌++◌, length, get_or, map, Some, None, refl, sym, ap, subst, ◌∙◌, append_assoc, arith}
use Rattle.std.specs.Prelude.{filter, Contains, ◌&&◌}
use Rattle.std.specs.Int.{w32, to_be_bytes}
use Rattle.std.specs.List.{flat_map, AllByRecursion}
use Rattle.std.specs.Ordering.{is_lt}
use Rattle.std.specs.declared.cmp.Ordering.{Ordering}
use Rattle.std.specs.declared.cmp.Ordering.TheVariants.{Less, Equal, Greater}
use Rattle.std.specs.FinMap as finite
use Rattle.std.specs.FinMap.{is_sorted, entries, entries_sorted}
use Rattle.std.specs.FinMap.Entries.{below_all}
use Rattle.std.proofs.lemmas.Bool.{cases_Bool}
use Rattle.byte_maps.specs.ByteMap.{byte_order, in_range}
use Rattle.byte_maps.proofs.Prelude.{both_first, both_second}
use Rattle.meta_rows.specs.Prelude.{Rows, rows_from_to}
use Rattle.meta_log.specs.declared.slot.Super.{Super}
use Rattle.meta_log.specs.Prelude.{width_of}
use Rattle.unit_fields.specs.Prelude.{IsName, IsCollName}
use Rattle.unit_fields.specs.declared.width.Width.{Width}
use Rattle.row_format.specs.Prelude.{object_key, onode_key, shard_key, Extent, extent_bytes, Row, onode, shard, row_key, row_value, FitsRow, FitsShard}
use Rattle.row_format.proofs.Prelude.{same_place, same_shard, begins_o, extents-same}
use Rattle.row_reading.proofs.KeyOrder.{after_front, has_front, lesser_page, onode_before}
use Rattle.row_reading.proofs.Entries.{AreRows, all_rows, are_rows}
use Rattle.store_image.specs.Prelude.{HasRow, HasShard, IsGoodRow, NoBadRow}
use Rattle.object_rows.specs.Shards.{ShardsAscend, AreShardsOf}

abbrev Entry : Type 0
Entry = List ℕ × List ℕ

-- the key and the value of a shard's row
abbrev pub shard_entry : Width → List ℕ → List ℕ → ℕ × List Extent → List ℕ × List ℕ
shard_entry w c o x = (shard_key c o x.0, flat_map (extent_bytes w) x.1)

-- this shard may stand in rows
abbrev pub FitsAsShard : Width → List ℕ → List ℕ → ℕ × List Extent → Type 0
FitsAsShard w c o x = FitsShard w c o x.0 x.1

-- the entry is the row of a shard of the object
pub record IsShardEntry (w : Width) (c o : List ℕ) (entry : List ℕ × List ℕ) : Type 0 where
  pub page : ℕ
  pub extents : List Extent
  pub fits : FitsShard w c o page extents
  pub is : entry ≡ shard_entry w c o (page, extents)

-- ---- lists of entries

-- the list has the entry
abbrev pub In : List Entry → Entry → Type 0
In [] x = ⊥
In (e ∷ es) x = (e ≡ x) ⊎ In es x

pub at_in : (es : List Entry) (x : Entry) (k : ℕ) → k < length es → ((d : Entry) → get_or es k d ≡ x) → In es x
at_in [] x k lt is = absurd (omega (arith, lt))
at_in (e ∷ es) x zero lt is = inl (is e)
at_in (e ∷ es) x (suc k) lt is = inr (at_in es x k (omega (arith, lt)) is)

all_at : (P : Entry → Type 0) (es : List Entry) → ((k : ℕ) (d : Entry) → k < length es → P (get_or es k d)) → AllByRecursion P es
all_at P [] each = tt
all_at P (e ∷ es) each = (each 0 e (omega arith), all_at P es (λ k d lt. each (suc k) d (omega (arith, lt))))

-- the keys ascend
abbrev pub KeysRise : List Entry → Type 0
KeysRise [] = Unit {0}
KeysRise (e ∷ es) = AllByRecursion (λ later. byte_order e.0 later.0 ≡ Less) es × KeysRise es

is_less : (r : Ordering) → T (is_lt r) → r ≡ Less
is_less Less h = refl
is_less Equal h = absurd h
is_less Greater h = absurd h

all_below : (key : List ℕ) (es : List Entry) → T (below_all byte_order key es) → AllByRecursion (λ later. byte_order key later.0 ≡ Less) es
all_below key [] h = tt
all_below key (e ∷ es) h = (is_less (byte_order key e.0) (both_first _ _ h), all_below key es (both_second _ _ h))

pub sorted_rise : (es : List Entry) → T (is_sorted byte_order es) → KeysRise es
sorted_rise [] h = tt
sorted_rise (e ∷ es) h = (all_below e.0 es (both_first _ _ h), sorted_rise es (both_second _ _ h))

module _ (p : Entry → Bool) where
  abbrev front : Entry → List Entry → Bool → List Entry
  front e es b = cond b (e ∷ filter p es) (filter p es)

  pub filtered_all : (P Q : Entry → Type 0) → ((e : Entry) → P e → p e ≡ true → Q e) → (es : List Entry) → AllByRecursion P es
      → AllByRecursion Q (filter p es)
  filtered_all P Q f [] all = tt
  filtered_all P Q f (e ∷ es) all = elim (cases_Bool (p e)) [
    | inl is ↦ subst (λ b. AllByRecursion Q (front e es b)) (sym is) (f e all.0 is, filtered_all P Q f es all.1)
    | inr is ↦ subst (λ b. AllByRecursion Q (front e es b)) (sym is) (filtered_all P Q f es all.1)
  ]

  pub in_filtered : (es : List Entry) (x : Entry) → p x ≡ true → In es x → In (filter p es) x
  in_filtered [] x is there = there
  in_filtered (e ∷ es) x is (inl same) = subst (λ b. In (front e es b) x) (sym (ap p same ∙ is)) (inl same)
  in_filtered (e ∷ es) x is (inr later) = elim (cases_Bool (p e)) [
    | inl t ↦ subst (λ b. In (front e es b) x) (sym t) (inr (in_filtered es x is later))
    | inr f ↦ subst (λ b. In (front e es b) x) (sym f) (in_filtered es x is later)
  ]

  pub filtered_rise : (es : List Entry) → KeysRise es → KeysRise (filter p es)
  filtered_rise [] rise = tt
  filtered_rise (e ∷ es) rise = elim (cases_Bool (p e)) [
    | inl is ↦ subst (λ b. KeysRise (front e es b)) (sym is) (
      filtered_all (λ later. byte_order e.0 later.0 ≡ Less) (λ later. byte_order e.0 later.0 ≡ Less) (λ later less t. less) es rise.0,
      filtered_rise es rise.1,
    )
    | inr is ↦ subst (λ b. KeysRise (front e es b)) (sym is) (filtered_rise es rise.1)
  ]

-- ---- keys in the range

pub not_less : (r : Ordering) (b : Bool) → (not (is_lt r) && b) ≡ true → r ≢ Less
not_less Less b h e = absurd cc
not_less Equal b h e = absurd cc
not_less Greater b h e = absurd cc

pub then_less : (r q : Ordering) → (not (is_lt r) && is_lt q) ≡ true → q ≡ Less
then_less Less q h = absurd cc
then_less Equal Less h = refl
then_less Equal Equal h = absurd cc
then_less Equal Greater h = absurd cc
then_less Greater Less h = refl
then_less Greater Equal h = absurd cc
then_less Greater Greater h = absurd cc

pub both_so : (r q : Ordering) → r ≢ Less → q ≡ Less → (not (is_lt r) && is_lt q) ≡ true
both_so Less q apart is = absurd (apart refl)
both_so Equal q apart is = ap is_lt is
both_so Greater q apart is = ap is_lt is

module _ (w : Width) (c o : List ℕ) where
  -- what the keys of an object have in common
  abbrev pub names_front : List ℕ
  names_front = 0x4f ∷ (c ++ 0 ∷ (o ++ 0 ∷ []))

  pub fronted : (rest : List ℕ) → names_front ++ rest ≡ object_key 0x4f c o rest
  fronted rest = ap (λ (l : List ℕ). 0x4f ∷ l)
      (append_assoc c (0 ∷ (o ++ 0 ∷ [])) rest ∙ ap (λ (l : List ℕ). c ++ 0 ∷ l) (append_assoc o (0 ∷ []) rest))

  abbrev pub shards_first : List ℕ
  shards_first = shard_key c o 0

  abbrev pub shards_end : List ℕ
  shards_end = object_key 0x4f c o (0x70 ∷ [])

  abbrev pub is_between : List ℕ → Bool
  is_between key = in_range shards_first shards_end key

  -- a key between is one of the object
  of_this : (key : List ℕ) → is_between key ≡ true → (rest : List ℕ) × (key ≡ object_key 0x4f c o rest)
  of_this key is =
      let up : byte_order key (names_front ++ (0x6f ∷ to_be_bytes w32 0 ++ 0x78 ∷ [])) ≢ Less =
      subst (λ k. byte_order key k ≢ Less) (sym (fronted (0x6f ∷ to_be_bytes w32 0 ++ 0x78 ∷ [])))
      (not_less (byte_order key shards_first) (is_lt (byte_order key shards_end)) is) in
      let down : byte_order key (names_front ++ (0x70 ∷ [])) ≡ Less =
      ap (byte_order key) (fronted (0x70 ∷ [])) ∙ then_less (byte_order key shards_first) (byte_order key shards_end) is in
      let found = has_front names_front key (0x6f ∷ to_be_bytes w32 0 ++ 0x78 ∷ []) (0x70 ∷ []) up down in
      (found.0, found.1 ∙ fronted found.0)

  module _ (coll : IsCollName c) (name : IsName o) where
    -- each shard's key is between
    pub shard_between : (page : ℕ) → page < 2 ^ 32 → is_between (shard_key c o page) ≡ true
    shard_between page lt = both_so (byte_order (shard_key c o page) shards_first) (byte_order (shard_key c o page) shards_end)
        (λ less. omega (arith, lesser_page c o coll name page 0 lt (omega arith) less))
        ((λ i. byte_order (sym (fronted (0x6f ∷ to_be_bytes w32 page ++ 0x78 ∷ [])) i) (sym (fronted (0x70 ∷ [])) i))
        ∙ after_front names_front (0x6f ∷ to_be_bytes w32 page ++ 0x78 ∷ []) (0x70 ∷ []))

    -- a row of one of the object's keys is its onode or a shard
    abbrev IsRowOf : Row → Type 0
    IsRowOf r = (row_key r ≡ onode_key c o) ⊎ IsShardEntry w c o (row_key r, row_value w r)

    of_onode : (d u : List ℕ) (size : ℕ) → FitsRow w (onode d u size) → (rest : List ℕ) → onode_key d u ≡ object_key 0x4f c o rest
        → IsRowOf (onode d u size)
    of_onode d u size fits rest is =
        let same = same_place 0x4f d u c o (0x6f ∷ []) rest fits.0 fits.1 coll name is in
        inl (λ i. onode_key (same.0 i) (same.1 i))

    of_shard : (d u : List ℕ) (page : ℕ) (es : List Extent) → FitsRow w (shard d u page es) → (rest : List ℕ)
        → shard_key d u page ≡ object_key 0x4f c o rest → IsRowOf (shard d u page es)
    of_shard d u page es fits rest is =
        let same = same_place 0x4f d u c o (0x6f ∷ to_be_bytes w32 page ++ 0x78 ∷ []) rest fits.coll_name fits.object_name coll name is in
        inr (record {
          page = page;
          extents = es;
          fits = subst (λ x. FitsShard w x o page es) same.0 (subst (λ x. FitsShard w d x page es) same.1 fits);
          is = λ i. (shard_key (same.0 i) (same.1 i) page, flat_map (extent_bytes w) es);
        })

    row_of : (r : Row) (rows : Rows) → HasRow w rows r → (rest : List ℕ) → row_key r ≡ object_key 0x4f c o rest → IsRowOf r
    row_of r rows has rest is = elim (begins_o w (c ++ 0 ∷ (o ++ 0 ∷ rest)) r has.fits (sym is)) [
      | inl on ↦
          let at : r ≡ onode on.0 on.1 on.2 = on.3 in
          subst IsRowOf (sym at) (of_onode on.0 on.1 on.2 (subst (FitsRow w) at has.fits) rest (sym (ap row_key at) ∙ is))
      | inr on ↦
          let at : r ≡ shard on.0 on.1 on.2 on.3 = on.4 in
          subst IsRowOf (sym at) (of_shard on.0 on.1 on.2 on.3 (subst (FitsRow w) at has.fits) rest (sym (ap row_key at) ∙ is))
    ]

    -- the rows there are shards
    row_between : (r : Row) (rows : Rows) → HasRow w rows r → is_between (row_key r) ≡ true → IsShardEntry w c o (row_key r, row_value w r)
    row_between r rows has is =
        let key = of_this (row_key r) is in
        elim (row_of r rows has key.0 key.1) [
          | inl own ↦ absurd (not_less (byte_order (row_key r) shards_first) (is_lt (byte_order (row_key r) shards_end)) is
              (ap (λ k. byte_order k shards_first) own ∙ onode_before c o coll name 0))
          | inr its ↦ its
        ]

    -- ---- shards by their entries

    among : (page : ℕ) (es : List Extent) → FitsShard w c o page es → (xs : List (ℕ × List Extent)) → AllByRecursion (FitsAsShard w c o) xs
        → In (map (shard_entry w c o) xs) (shard_entry w c o (page, es)) → Contains xs (page, es)
    among page es fits [] fit there = absurd there
    among page es fits (x ∷ xs) fit (inl same) =
        let first = same_shard c o c o x.0 page coll name coll name fit.0.page_below fits.page_below (ap (λ (e : Entry). e.0) same) in
        let own : x.1 ≡ es = extents-same w x.1 es fit.0.fit fits.fit (ap (λ (e : Entry). e.1) same) in
        (0, omega arith, λ i. (first.2 i, own i))
    among page es fits (x ∷ xs) fit (inr later) = let at = among page es fits xs fit.1 later in (suc at.0, omega (arith, at.1), at.2)

    later_pages : (x : ℕ × List Extent) → FitsAsShard w c o x → (xs : List (ℕ × List Extent)) → AllByRecursion (FitsAsShard w c o) xs
        → AllByRecursion (λ later. byte_order (shard_key c o x.0) later.0 ≡ Less) (map (shard_entry w c o) xs)
        → AllByRecursion (λ later. x.0 < later.0) xs
    later_pages x own [] fit less = tt
    later_pages x own (y ∷ ys) fit less =
        (lesser_page c o coll name x.0 y.0 own.page_below fit.0.page_below less.0, later_pages x own ys fit.1 less.1)

    shards_rise : (xs : List (ℕ × List Extent)) → AllByRecursion (FitsAsShard w c o) xs → KeysRise (map (shard_entry w c o) xs) → ShardsAscend xs
    shards_rise [] fit rise = tt
    shards_rise (x ∷ xs) fit rise = (later_pages x fit.0 xs fit.1 rise.0, shards_rise xs fit.1 rise.1)

    module _ (s : Super) (rows : Rows) (good : NoBadRow s rows) (wide : width_of s ≡ w) where
      abbrev pub range : List Entry
      range = rows_from_to rows shards_first (Some shards_end)

      abbrev pub StandsIn : Entry → Type 0
      StandsIn e = finite.get rows e.0 ≡ Some e.1

      pub entries_are : AreRows rows (entries rows)
      entries_are = subst (AreRows rows) (all_rows rows) (are_rows rows (rows_from_to rows [] None) refl)

      pub all_stand : AllByRecursion StandsIn (entries rows)
      all_stand = all_at StandsIn (entries rows) (λ k d lt. entries_are.has k d lt)

      range_stands : AllByRecursion StandsIn range
      range_stands = filtered_all (λ e. is_between e.0) StandsIn StandsIn (λ e there is. there) (entries rows) all_stand

      -- a row of one of the object's keys, as it stands
      pub entry_of : (e : Entry) → StandsIn e → (rest : List ℕ) → e.0 ≡ object_key 0x4f c o rest → (e.0 ≡ onode_key c o) ⊎ IsShardEntry w c o e
      entry_of e there rest is =
          let g : IsGoodRow s rows e.0 e.1 = good e.0 e.1 there in
          let stands = ap (finite.get rows) (sym g.key_is) ∙ there ∙ ap Some g.value_is in
          let has : HasRow w rows g.row = subst (λ v. HasRow v rows g.row) wide (record { fits = g.fits; stands = stands }) in
          let value : e.1 ≡ row_value w g.row = g.value_is ∙ ap (λ v. row_value v g.row) wide in
          subst (λ (x : Entry). (x.0 ≡ onode_key c o) ⊎ IsShardEntry w c o x) (λ i. (sym g.key_is i, sym value i))
          (row_of g.row rows has rest (sym g.key_is ∙ is))

      entry_between : (e : Entry) → StandsIn e → is_between e.0 ≡ true → IsShardEntry w c o e
      entry_between e there is =
          let g : IsGoodRow s rows e.0 e.1 = good e.0 e.1 there in
          let stands = ap (finite.get rows) (sym g.key_is) ∙ there ∙ ap Some g.value_is in
          let has : HasRow w rows g.row = subst (λ v. HasRow v rows g.row) wide (record { fits = g.fits; stands = stands }) in
          let value : e.1 ≡ row_value w g.row = g.value_is ∙ ap (λ v. row_value v g.row) wide in
          subst (IsShardEntry w c o) (λ i. (sym g.key_is i, sym value i)) (row_between g.row rows has (ap is_between (sym g.key_is) ∙ is))

      pub range_is_shards : AllByRecursion (IsShardEntry w c o) range
      range_is_shards = filtered_all (λ e. is_between e.0) StandsIn (IsShardEntry w c o) entry_between (entries rows) all_stand

      there_by : (xs : List (ℕ × List Extent)) → AllByRecursion (FitsAsShard w c o) xs → AllByRecursion StandsIn (map (shard_entry w c o) xs)
          → AllByRecursion (λ x. HasShard w rows c o x.0 x.1) xs
      there_by [] fit there = tt
      there_by (x ∷ xs) fit there = (record { fits = fit.0; stands = there.0 }, there_by xs fit.1 there.1)

      range_rises : KeysRise range
      range_rises = filtered_rise (λ e. is_between e.0) (entries rows) (sorted_rise (entries rows) (entries_sorted rows))

      -- the shards whose entries are the range are the object's
      pub range_has_all : (xs : List (ℕ × List Extent)) → AllByRecursion (FitsAsShard w c o) xs → range ≡ map (shard_entry w c o) xs
          → AreShardsOf w rows c o xs
      range_has_all xs fit is = record {
        there = there_by xs fit (subst (AllByRecursion StandsIn) is range_stands);
        all = λ page es has.
            let at = entries_are.stands (shard_key c o page) (flat_map (extent_bytes w) es) has.stands in
            let in_entries : In (entries rows) (shard_entry w c o (page, es)) =
            at_in (entries rows) (shard_entry w c o (page, es)) at.at at.within at.is in
            let between = shard_between page has.fits.page_below in
            let in_there : In range (shard_entry w c o (page, es)) =
            in_filtered (λ e. is_between e.0) (entries rows) (shard_entry w c o (page, es)) between in_entries in
            among page es has.fits xs fit (subst (λ l. In l (shard_entry w c o (page, es))) is in_there);
        rise = shards_rise xs fit (subst KeysRise is range_rises);
      }

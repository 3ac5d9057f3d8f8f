-- The least key behind a collection or an object is that of the next one.
use Rattle.std.proofs.Common.{◌≡◌, ◌≢◌, ◌⊎◌, inl, inr, ℕ, true, List, [], ◌∷◌, ◌++◌, drop}
use Rattle.std.proofs.Common.{Option, Some, None, MatchOption, is_some, refl, sym, ap, subst, ◌∙◌, arith}
use Rattle.std.specs.Option.{IfSome}
use Rattle.std.specs.FinMap as map
use Rattle.std.specs.declared.cmp.Ordering.TheVariants.{Less}
use Rattle.byte_maps.specs.ByteMap.{byte_order}
use Rattle.meta_rows.specs.Prelude.{Rows}
use Rattle.meta_log.specs.declared.slot.Super.{Super}
use Rattle.meta_log.specs.Prelude.{width_of}
use Rattle.unit_fields.specs.Prelude.{IsName, IsCollName}
use Rattle.unit_fields.proofs.CollNames.{no_zero_in_coll}
use Rattle.row_format.specs.Prelude.{coll_key, onode_key, object_key, shard_key, Extent, Row, onode, shard, row_key, FitsRow}
use Rattle.row_format.proofs.Prelude.{same_head, first_zero, same_place, coll_no_object, under_coll, begins_o}
use Rattle.onode_codec.specs.Fronts.{colls_first, colls_end, objects_first, objects_end}
use Rattle.row_reading.proofs.KeyOrder.{page_bytes, onode_before}
use Rattle.row_reading.specs.Reading.{IsNoKey, SpellsKey, part_kind, part_bytes}
use Rattle.row_reading.specs.declared.key.Part.{Part}
use Rattle.row_reading.specs.declared.key.Part.TheVariants.{Onode, Shard, Attribute, OmapHeader, OmapPair}
use Rattle.row_reading.specs.declared.key.RowKey.{RowKey}
use Rattle.row_reading.specs.declared.key.RowKey.TheVariants.{Collection, Object}
use Rattle.store_image.specs.Prelude.{HasKey, IsGoodRow, IsInPlace, NoBadRow}
use Rattle.read_facts.specs.Prelude.{IsCollection, IsObject, IsBehind, IsNextOf, IsPast}
use Rattle.object_rows.specs.NextKeys.{IsLeastKey, HasNoKey}
use Rattle.object_rows.proofs.NamesOrder.{same_first}
use Rattle.object_rows.proofs.NamesKeys.{colls_key, coll_within, object_first, behind_coll}
use Rattle.object_rows.proofs.NamesKeys.{objects_key, with_part, part_behind, onode_within, onodes_in_order}

-- a value that is there
pub there_is : (o : Option (List ℕ)) → is_some o ≡ true → (v : List ℕ) × (o ≡ Some v)
there_is None h = absurd cc
there_is (Some v) h = (v, refl)

-- The key is that of the next collection.
pub record IsNextColl (rows : Rows) (after : Option (List ℕ)) (key : List ℕ) : Type 0 where
  pub name : List ℕ
  pub is : key ≡ coll_key name
  pub next : IsNextOf (IsCollection rows) after name

-- The key is that of the onode of the next object.
pub record IsNextOnode (rows : Rows) (c : List ℕ) (after : Option (List ℕ)) (key : List ℕ) : Type 0 where
  pub name : List ℕ
  pub is : key ≡ onode_key c name
  pub next : IsNextOf (IsObject rows c) after name

module _ (s : Super) (rows : Rows) (good : NoBadRow s rows) where
  -- a key of the rows is that of a good row
  good_at : (key : List ℕ) → HasKey rows key → (value : List ℕ) × IsGoodRow s rows key value
  good_at key has = let v = there_is (map.get rows key) has in (v.0, good key v.0 v.1)

  -- ---- collections

  -- a row whose key begins as a collection's is one
  coll_named : (name : List ℕ) (r : Row) → FitsRow (width_of s) r → coll_key name ≡ row_key r → IsCollName name
  coll_named name r fits is = subst (FitsRow (width_of s)) (under_coll (width_of s) name r fits is) fits

  -- the least key behind a collection is that of the next one
  pub next_coll : (after : Option (List ℕ)) (key : List ℕ) → IsLeastKey rows (colls_first after) colls_end key → IsNextColl rows after key
  next_coll after key l =
      let k = colls_key after key l.within in
      let there : HasKey rows (coll_key k.name) = subst (HasKey rows) k.is l.there in
      let g = good_at (coll_key k.name) there in
      record {
        name = k.name;
        is = k.is;
        next = record {
          is = record { named = coll_named k.name g.1.row g.1.fits g.1.key_is; there = there };
          behind = k.behind;
          least = λ other its behind less. l.least (coll_key other) its.there (coll_within after other behind)
              (subst (λ (x : List ℕ). byte_order (coll_key other) x ≡ Less) (sym k.is) (same_first 0x43 other k.name ∙ less));
        };
      }

  -- where there is no key behind a collection, there is no collection
  pub no_coll : (after : Option (List ℕ)) → HasNoKey rows (colls_first after) colls_end → IsPast (IsCollection rows) after
  no_coll after none name is behind = none (coll_key name) is.there (coll_within after name behind)

  -- ---- objects

  module _ (c : List ℕ) (coll : IsCollName c) where
    -- A key of the collection is that of an object's onode, or stands behind it.
    record IsOfObject (rest : List ℕ) : Type 0 where
      pub object : List ℕ
      pub part : List ℕ
      pub named : IsName object
      pub is : rest ≡ with_part object part
      pub there : HasKey rows (onode_key c object)
      pub own_or_later : (part ≡ []) ⊎ (byte_order (onode_key c object) (behind_coll c rest) ≡ Less)

    -- of an onode
    onode_of : (rest d u : List ℕ) (size : ℕ) → FitsRow (width_of s) (onode d u size) → HasKey rows (onode_key d u) → behind_coll c rest ≡ onode_key d u
        → IsOfObject rest
    onode_of rest d u size fits has is =
        let same = first_zero c d rest (with_part u []) (no_zero_in_coll c coll) (no_zero_in_coll d fits.0) (ap (drop 1) is) in
        record {
          object = u;
          part = [];
          named = fits.1;
          is = same.1;
          there = subst (λ (x : List ℕ). HasKey rows (onode_key x u)) (sym same.0) has;
          own_or_later = inl refl;
        }

    -- of a shard
    shard_of : (rest d u : List ℕ) (page : ℕ) (es : List Extent) → FitsRow (width_of s) (shard d u page es) → IsInPlace s rows (shard d u page es)
        → behind_coll c rest ≡ shard_key d u page → IsOfObject rest
    shard_of rest d u page es fits place is =
        let same = first_zero c d rest (with_part u (page_bytes page)) (no_zero_in_coll c coll) (no_zero_in_coll d fits.coll_name) (ap (drop 1) is) in
        record {
          object = u;
          part = page_bytes page;
          named = fits.object_name;
          is = same.1;
          there = subst (λ (x : List ℕ). HasKey rows (onode_key x u)) (sym same.0) place.has_onode;
          own_or_later = inr (ap (λ (x : List ℕ). byte_order (onode_key c u) (behind_coll c x)) same.1 ∙ onode_before c u coll fits.object_name page);
        }

    -- each row whose key is of the collection is such
    object_of : (rest : List ℕ) (r : Row) → FitsRow (width_of s) r → IsInPlace s rows r → HasKey rows (row_key r) → behind_coll c rest ≡ row_key r
        → IsOfObject rest
    object_of rest r fits place has is = elim (begins_o (width_of s) (c ++ 0 ∷ rest) r fits is) [
      | inl on ↦
          let at : r ≡ onode on.0 on.1 on.2 = on.3 in
          onode_of rest on.0 on.1 on.2 (subst (FitsRow (width_of s)) at fits) (subst (λ (x : Row). HasKey rows (row_key x)) at has) (is ∙ ap row_key at)
      | inr on ↦
          let at : r ≡ shard on.0 on.1 on.2 on.3 = on.4 in
          shard_of rest on.0 on.1 on.2 on.3 (subst (FitsRow (width_of s)) at fits) (subst (IsInPlace s rows) at place) (is ∙ ap row_key at)
    ]

    module _ (after : Option (List ℕ)) (named : IfSome after IsName) where
      -- the least key behind an object is that of the next one's onode
      pub next_onode : (key : List ℕ) → IsLeastKey rows (objects_first c after) (objects_end c) key → IsNextOnode rows c after key
      next_onode key l =
          let k = objects_key c after key l.within in
          let g = good_at key l.there in
          let o = object_of k.rest g.1.row g.1.fits g.1.in_place (subst (HasKey rows) g.1.key_is l.there) (sym k.is ∙ g.1.key_is) in
          let behind : IsBehind after o.object =
          part_behind after o.object o.part named o.named (subst (λ (x : List ℕ). byte_order x (object_first after) ≢ Less) o.is k.up) in
          let is : key ≡ onode_key c o.object = elim o.own_or_later [
            | inl e ↦ k.is ∙ ap (behind_coll c) (o.is ∙ ap (with_part o.object) e)
            | inr less ↦ absurd (l.least (onode_key c o.object) o.there (onode_within c o.object after named o.named behind)
                (subst (λ (x : List ℕ). byte_order (onode_key c o.object) x ≡ Less) (sym k.is) less))
          ] in
          record {
            name = o.object;
            is = is;
            next = record {
              is = record { named = o.named; there = o.there };
              behind = behind;
              least = λ other its before less. l.least (onode_key c other) its.there (onode_within c other after named its.named before)
                  (subst (λ (x : List ℕ). byte_order (onode_key c other) x ≡ Less) (sym is)
                  (onodes_in_order c other o.object its.named o.named less));
            };
          }

      -- where there is no key behind an object, there is no object
      pub no_onode : HasNoKey rows (objects_first c after) (objects_end c) → IsPast (IsObject rows c) after
      no_onode none name is behind = none (onode_key c name) is.there (onode_within c name after named is.named behind)

-- ---- keys as they are read

-- a key that is read as something spells it
spells_as : (key : List ℕ) (found : Option RowKey) (named : RowKey) → MatchOption found (IsNoKey key) (SpellsKey key) → found ≡ Some named
    → SpellsKey key named
spells_as key found named read got = subst (λ (f : Option RowKey). MatchOption f (IsNoKey key) (SpellsKey key)) got read

-- a key that spells something is read
spells_none : (key : List ℕ) (found : Option RowKey) (named : RowKey) → MatchOption found (IsNoKey key) (SpellsKey key) → found ≡ None
    → SpellsKey key named → ⊥
spells_none key found named read got spells =
    let none : IsNoKey key = subst (λ (f : Option RowKey). MatchOption f (IsNoKey key) (SpellsKey key)) got read in
    none named spells

-- a collection's key is read
pub coll_is_read : (key : List ℕ) (found : Option RowKey) → MatchOption found (IsNoKey key) (SpellsKey key) → found ≡ None
    → (coll : List ℕ) × IsCollName coll × (key ≡ coll_key coll) → ⊥
coll_is_read key found read got is = spells_none key found (Collection is.0) read got (record { fits = is.1; spelled = is.2 })

-- an onode's key is read
pub onode_is_read : (key : List ℕ) (found : Option RowKey) → MatchOption found (IsNoKey key) (SpellsKey key) → found ≡ None
    → (coll object : List ℕ) × IsCollName coll × IsName object × (key ≡ onode_key coll object) → ⊥
onode_is_read key found read got is =
    spells_none key found (Object is.0 is.1 Onode) read got (record { fits = (is.2, is.3, tt); spelled = is.4 })

-- no part of an object is of a collection's kind
part_no_coll : (part : Part) → part_kind part ≢ 0x43
part_no_coll Onode e = omega (arith, e)
part_no_coll (Shard page) e = omega (arith, e)
part_no_coll (Attribute name) e = omega (arith, e)
part_no_coll OmapHeader e = omega (arith, e)
part_no_coll (OmapPair key) e = omega (arith, e)

-- a collection's key is not read as an object's
pub coll_reads_no_object : (key : List ℕ) (found : Option RowKey) (named : RowKey) (c o : List ℕ) (part : Part)
    → MatchOption found (IsNoKey key) (SpellsKey key) → found ≡ Some named → named ≡ Object c o part
    → (coll : List ℕ) × IsCollName coll × (key ≡ coll_key coll) → ⊥
coll_reads_no_object key found named c o part read got same is =
    let spells = spells_as key found (Object c o part) read (got ∙ ap (λ (k : RowKey). Some k) same) in
    part_no_coll part (sym (same_head _ _ _ _ (sym is.2 ∙ spells.spelled)))

-- an onode's key is not read as a collection's
pub onode_reads_no_coll : (key : List ℕ) (found : Option RowKey) (named : RowKey) (name : List ℕ)
    → MatchOption found (IsNoKey key) (SpellsKey key) → found ≡ Some named → named ≡ Collection name
    → (coll object : List ℕ) × IsCollName coll × IsName object × (key ≡ onode_key coll object) → ⊥
onode_reads_no_coll key found named name read got same is =
    let spells = spells_as key found (Collection name) read (got ∙ ap (λ (k : RowKey). Some k) same) in
    coll_no_object name is.0 is.1 (0x6f ∷ []) (sym spells.spelled ∙ is.4)

-- the object that an onode's key is read as
pub reads_object : (key : List ℕ) (found : Option RowKey) (c o : List ℕ) (part : Part) → MatchOption found (IsNoKey key) (SpellsKey key)
    → found ≡ Some (Object c o part) → (coll object : List ℕ) → IsCollName coll → IsName object → key ≡ onode_key coll object → o ≡ object
reads_object key found c o part read got coll object coll_is object_is is =
    let spells = spells_as key found (Object c o part) read got in
    let both : object_key (part_kind part) c o (part_bytes part) ≡ onode_key coll object = sym spells.spelled ∙ is in
    let kind : part_kind part ≡ 0x4f = same_head _ _ _ _ both in
    let same = same_place 0x4f c o coll object (part_bytes part) (0x6f ∷ []) spells.fits.0 spells.fits.1 coll_is object_is
    (ap (λ k. object_key k c o (part_bytes part)) (sym kind) ∙ both) in
    same.1

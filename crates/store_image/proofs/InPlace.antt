-- What a row needs of the store and of the other rows is carried from rows to rows: the one place that goes through all kinds.
use Rattle.std.proofs.Common.{◌≡◌, ℕ, List, [], ◌∷◌, length, subst, arith}
use Rattle.std.specs.List.{AllByRecursion}
use Rattle.meta_rows.specs.Prelude.{Rows}
use Rattle.meta_log.specs.declared.slot.Super.{Super}
use Rattle.meta_log.specs.Prelude.{width_of}
use Rattle.row_format.specs.Prelude.{coll_key, onode_key, shared_key, Body, private, shared, Extent, Slot, Row, collection, onode, shard, attribute, omap_header, omap_pair, blob, bitmap, as_row, shard_in}
use Rattle.store_image.specs.Prelude.{HasKey, HasRow, HasOnode, HasShard, IsDataUnit, AreData, IsOnData, HasSlots, IsNamedBy, IsNamedEarlier, IsShardInPlace, HasObject, IsInPlace, IsGoodRow, NoBadRow}

-- Of these rows of a store, others of this store have what rows need: the same collections, objects and blobs at least, no other sizes, shards or
-- slots, and at least these units for data.
pub record Carries (s t : Super) (rows after : Rows) : Type 0 where
  pub coll : (c : List ℕ) → HasKey rows (coll_key c) → HasKey after (coll_key c)
  pub onode : (c o : List ℕ) → HasKey rows (onode_key c o) → HasKey after (onode_key c o)
  pub blob_key : (sbid : ℕ) → HasKey rows (shared_key sbid) → HasKey after (shared_key sbid)
  pub was_size : (c o : List ℕ) (size : ℕ) → HasOnode after c o size → HasOnode rows c o size
  pub was_shard : (c o : List ℕ) (page : ℕ) (es : List Extent) → HasShard (width_of t) after c o page es → HasShard (width_of s) rows c o page es
  pub was_blob : (sbid first : ℕ) (slots : List Slot) → HasRow (width_of t) after (blob sbid first slots) → HasRow (width_of s) rows (blob sbid first slots)
  pub are_data : (first count : ℕ) → AreData s first count → AreData t first count
  pub of_data : (unit : ℕ) → IsDataUnit s unit → IsDataUnit t unit

all_too : {P Q : Extent → Type 0} (es : List Extent) → ((e : Extent) → P e → Q e) → AllByRecursion P es → AllByRecursion Q es
all_too [] each all = tt
all_too (e ∷ es) each all = (each e all.0, all_too es each all.1)

module _ (s t : Super) (rows after : Rows) (has : Carries s t rows after) where
  has_object : (c o : List ℕ) → HasObject rows c o → HasObject after c o
  has_object c o is = (has.coll c is.0, has.onode c o is.1)

  on_data : (b : Body) → IsOnData s b → IsOnData t b
  on_data (private unit csums) is = has.are_data unit (length csums) is
  on_data (shared sbid first count) is = is

  was_named : (c : List ℕ) (sbid : ℕ) → IsNamedBy (width_of t) after c sbid → IsNamedBy (width_of s) rows c sbid
  was_named c sbid is = record {
    object = is.object;
    page = is.page;
    extents = is.extents;
    has_shard = has.was_shard c is.object is.page is.extents is.has_shard;
    names = is.names;
  }

  was_earlier : (c : List ℕ) (sbid : ℕ) → IsNamedEarlier (width_of t) after c sbid → IsNamedEarlier (width_of s) rows c sbid
  was_earlier c sbid is = record { coll = is.coll; before = is.before; named = was_named is.coll sbid is.named }

  has_slots : (c : List ℕ) (b : Body) → HasSlots (width_of s) rows c b → HasSlots (width_of t) after c b
  has_slots c (private unit csums) is = tt
  has_slots c (shared sbid first count) is = (
    has.blob_key sbid is.0,
    λ unit slots there. is.1 unit slots (has.was_blob sbid unit slots there),
    λ earlier. is.2 (was_earlier c sbid earlier),
  )

  pub carried : (row : Row) → IsInPlace s rows row → IsInPlace t after row
  carried (collection c) is = tt
  carried (onode c o size) is = (has.coll c is.0, is.1)
  carried (shard c o page es) is = record {
    has_collection = has.coll c is.has_collection;
    has_onode = has.onode c o is.has_onode;
    ascend = is.ascend;
    behind = λ earlier fs before there. is.behind earlier fs before (has.was_shard c o earlier fs there);
    within = λ size there. is.within size (has.was_size c o size there);
    on_data = all_too es (λ e. on_data e.body) is.on_data;
    slots = all_too es (λ e. has_slots c e.body) is.slots;
  }
  carried (attribute c o name value) is = has_object c o is
  carried (omap_header c o value) is = has_object c o is
  carried (omap_pair c o key value) is = has_object c o is
  carried (blob sbid first slots) is =
      record { low = is.low; on_data = has.are_data first (length slots) is.on_data; named = is.named; blank = is.blank }
  carried (bitmap r bits) is = λ unit here one. has.of_data unit (is unit here one)

  pub good_carried : (key value : List ℕ) → IsGoodRow s rows key value → IsGoodRow t after key value
  good_carried key value is =
      record { row = is.row; fits = is.fits; key_is = is.key_is; value_is = is.value_is; in_place = carried is.row is.in_place }

-- ---- two superblocks of stores that are divided alike

module _ (s t : Super) (half : s.half ≡ t.half) (units : s.units ≡ t.units) where
  pub data_too : (unit : ℕ) → IsDataUnit s unit → IsDataUnit t unit
  data_too unit is = (omega (arith, half, is.0), omega (arith, units, is.1))

  pub none_bad_too : (rows : Rows) → NoBadRow s rows → NoBadRow t rows
  none_bad_too rows good key value stands =
      good_carried s t rows rows (record {
        coll = λ c is. is;
        onode = λ c o is. is;
        was_size = λ c o size is. is;
        blob_key = λ sbid is. is;
        was_shard = λ c o page es is. is;
        was_blob = λ sbid first slots is. is;
        are_data = λ first count is. (omega (arith, half, is.0), omega (arith, units, is.1));
        of_data = data_too;
      }) key value (good key value stands)

-- ---- shards

-- what a shard needs, of the shard that a row is
pub shard_placed : (s : Super) (rows : Rows) (row : Row) → row ≡ as_row (shard_in row) → IsInPlace s rows row
    → IsShardInPlace s rows (shard_in row).coll (shard_in row).object (shard_in row).page (shard_in row).extents
shard_placed s rows row is place = subst (IsInPlace s rows) is place

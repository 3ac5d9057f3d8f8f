-- Rows that are the same but for those of the table say the same of collections and objects.
use Rattle.std.proofs.Common.{◌≢◌, ◌↔◌, ℕ, List, [], ◌∷◌, is_some, sym, ap, ◌∙◌, arith}
use Rattle.std.specs.Prelude.{unwrap_or}
use Rattle.unit_fields.specs.declared.width.Width.{Width}
use Rattle.meta_rows.specs.Prelude.{Rows, rows_after}
use Rattle.meta_rows.specs.declared.row_op.RowOp.{RowOp}
use Rattle.object_model.specs.Prelude.{Object, Objects}
use Rattle.row_format.specs.Prelude.{object_key, coll_key, onode_key, attr_key, header_key, omap_key, shared_key, Place, own, slot, Slot, Row, onode, shard, row_key}
use Rattle.row_format.proofs.Prelude.{same_head}
use Rattle.store_image.specs.Prelude.{HasRow, PageUnit, IsPageAt, HasSlot, IsPageOn, Owner, page_of, slot_of, Owns, IsCounted, CountsAreExact, IsPageSeen, page_bytes, IsObjectShape, IsShape, AreObjectBytes, ObjectsStand}
use Rattle.store_image.proofs.Prelude.{slot_still, stands_still}
use Rattle.bitmap_freelist.specs.Bitmap.{Units, AreFlips, IsOtherKey, AreAlikeButBits}
use Rattle.bitmap_freelist.proofs.Turning.{leave_others}

-- ---- keys

-- a key that begins with another byte than "b"
other_first : (kind : ℕ) (rest : List ℕ) → kind ≢ 0x62 → IsOtherKey (kind ∷ rest)
other_first kind rest apart r below e = apart (same_head kind 0x62 rest _ e)

-- a key of an object's rows
pub object_key_is_other : (kind : ℕ) (c o rest : List ℕ) → kind ≢ 0x62 → IsOtherKey (object_key kind c o rest)
object_key_is_other kind c o rest apart = other_first kind _ apart

-- a collection's key
pub coll_key_is_other : (c : List ℕ) → IsOtherKey (coll_key c)
coll_key_is_other c = other_first 0x43 c (λ e. absurd (omega (arith, e)))

-- the keys of onodes and shards
onode_keys : (c o rest : List ℕ) → IsOtherKey (object_key 0x4f c o rest)
onode_keys c o rest = object_key_is_other 0x4f c o rest (λ e. absurd (omega (arith, e)))

-- those of attributes
attr_keys : (c o rest : List ℕ) → IsOtherKey (object_key 0x41 c o rest)
attr_keys c o rest = object_key_is_other 0x41 c o rest (λ e. absurd (omega (arith, e)))

-- and those of headers and omaps
omap_keys : (c o rest : List ℕ) → IsOtherKey (object_key 0x4d c o rest)
omap_keys c o rest = object_key_is_other 0x4d c o rest (λ e. absurd (omega (arith, e)))

-- and those of shared blobs
pub blob_keys : (sbid : ℕ) → IsOtherKey (shared_key sbid)
blob_keys sbid = other_first 0x58 _ (λ e. absurd (omega (arith, e)))

-- ---- rows that are alike

-- operations that turn bits leave all else
pub flips_alike : (rows : Rows) (units : Units) (ops : List RowOp) → AreFlips units ops → AreAlikeButBits rows (rows_after rows ops)
flips_alike rows units ops are = leave_others rows units ops are

-- the other way round
pub alike_back : (rows other : Rows) → AreAlikeButBits rows other → AreAlikeButBits other rows
alike_back rows other alike key is_other = sym (alike key is_other)

-- a row that isn't of the table
pub alike_has_row : (w : Width) (rows other : Rows) (row : Row) → AreAlikeButBits rows other → IsOtherKey (row_key row) → HasRow w rows row
    → HasRow w other row
alike_has_row w rows other row alike is_other has = record { fits = has.fits; stands = alike (row_key row) is_other ∙ has.stands }

-- where a page stands
pub alike_page : (w : Width) (rows other : Rows) (c o : List ℕ) (page : ℕ) (place : Place) → AreAlikeButBits rows other
    → IsPageAt w rows c o page place
    → IsPageAt w other c o page place
alike_page w rows other c o page place alike is = record {
  first = is.first;
  extents = is.extents;
  has_shard = alike_has_row w rows other (shard c o is.first is.extents) alike (onode_keys c o _) is.has_shard;
  has_page = is.has_page;
}

-- which unit it stands on
pub alike_page_on : (w : Width) (rows other : Rows) (c o : List ℕ) (page : ℕ) (on : PageUnit) → AreAlikeButBits rows other
    → IsPageOn w rows c o page on
    → IsPageOn w other c o page on
alike_page_on w rows other c o page on alike is = record {
  place = is.place;
  at = alike_page w rows other c o page is.place alike is.at;
  stands = stands_still w rows other is.place on (λ sbid. alike (shared_key sbid) (blob_keys sbid)) is.stands;
}

-- a slot
alike_slot : (w : Width) (rows other : Rows) (sbid index at : ℕ) (x : Slot) → AreAlikeButBits rows other → HasSlot w rows sbid index at x
    → HasSlot w other sbid index at x
alike_slot w rows other sbid index at x alike has = slot_still w rows other sbid index at x (alike (shared_key sbid) (blob_keys sbid)) has

-- how many pages name it
alike_counted : (w : Width) (rows other : Rows) (sbid index count : ℕ) → AreAlikeButBits rows other → IsCounted w rows sbid index count
    → IsCounted w other sbid index count
alike_counted w rows other sbid index count alike is = record {
  pages = is.pages;
  namers = record {
    each = λ p. (
      λ has. alike_page w rows other p.coll p.object p.page (slot sbid index) alike ((is.namers.each p).0 has),
      λ names. (is.namers.each p).1 (alike_page w other rows p.coll p.object p.page (slot sbid index) (alike_back rows other alike) names),
    );
    once = is.namers.once;
  };
  count_is = is.count_is;
}

-- so counts stay exact
pub alike_counts : (w : Width) (rows other : Rows) → AreAlikeButBits rows other → CountsAreExact w rows → CountsAreExact w other
alike_counts w rows other alike counts sbid index unit x has =
    alike_counted w rows other sbid index x.count alike (counts sbid index unit x (alike_slot w other rows sbid index unit x (alike_back rows other alike) has))

-- an owner on the other side
owns_there : (w : Width) (rows other : Rows) (owner : Owner) (unit : ℕ) → AreAlikeButBits rows other → Owns w rows owner unit
    → Owns w other owner unit
owns_there w rows other (page_of c o page) unit alike owns = (owns.0, alike_page w rows other c o page (own unit owns.0) alike owns.1)
owns_there w rows other (slot_of sbid index) unit alike owns = (owns.0, (alike_slot w rows other sbid index unit owns.0 alike owns.1.0, owns.1.1))

-- who owns a unit
pub alike_owns : (w : Width) (rows other : Rows) (owner : Owner) (unit : ℕ) → AreAlikeButBits rows other
    → Owns w rows owner unit ↔ Owns w other owner unit
alike_owns w rows other owner unit alike =
    (owns_there w rows other owner unit alike, owns_there w other rows owner unit (alike_back rows other alike))

module _ (w : Width) (rows other : Rows) (alike : AreAlikeButBits rows other) where
  -- the rows of one object
  object_shape : (c o : List ℕ) (object : Object) → IsObjectShape rows c o object → IsObjectShape other c o object
  object_shape c o object is = record {
    size = alike_has_row w rows other (onode c o _) alike (onode_keys c o _) is.size;
    size_most = is.size_most;
    attr_names = is.attr_names;
    attrs = λ name named. is.attrs name named ∙ sym (alike (attr_key c o name) (attr_keys c o name));
    header = is.header ∙ sym (ap (λ found. unwrap_or found []) (alike (header_key c o) (omap_keys c o _)));
    omap_keys = is.omap_keys;
    omap = λ key named. is.omap key named ∙ sym (alike (omap_key c o key) (omap_keys c o _));
  }

  -- those of all objects and collections
  pub alike_shape : (objects : Objects) → IsShape rows objects → IsShape other objects
  alike_shape objects is = record {
    collections = λ c. is.collections c ∙ sym (ap is_some (alike (coll_key c) (coll_key_is_other c)));
    present = λ c o object there. object_shape c o object (is.present c o object there);
    missing = λ c o coll name none. alike (onode_key c o) (onode_keys c o _) ∙ is.missing c o coll name none;
  }

  -- a page that is seen
  page_seen : (at : ℕ → List ℕ) (on : PageUnit) (page : List ℕ) → IsPageSeen at rows on page → IsPageSeen at other on page
  page_seen at on page is = record { seen = is.seen; kept = is.kept }

  -- the bytes of one object
  object_bytes : (at : ℕ → List ℕ) (c o bytes : List ℕ) → AreObjectBytes w at rows c o bytes → AreObjectBytes w at other c o bytes
  object_bytes at c o bytes are = record {
    mapped = λ page on is.
        page_seen at on (page_bytes bytes page) (are.mapped page on (alike_page_on w other rows c o page on (alike_back rows other alike) is));
    holes = λ page hole. are.holes page (λ on is. hole on (alike_page_on w rows other c o page on alike is));
  }

-- what the rows stand for
pub alike_stand : (w : Width) (at : ℕ → List ℕ) (rows other : Rows) (objects : Objects) → AreAlikeButBits rows other → ObjectsStand w at rows objects
    → ObjectsStand w at other objects
alike_stand w at rows other objects alike stand = record {
  shape = alike_shape w rows other alike objects stand.shape;
  bytes = λ c o object there. object_bytes w rows other alike at c o object.bytes (stand.bytes c o object there);
}

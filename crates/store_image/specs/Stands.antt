-- What an image of a device stands for.
use Rattle.std.specs.Prelude.{◌≡◌, ℕ, ◌*◌, ◌≤◌, List, ◌++◌, length, take, drop, Some, None, IsSome}
use Rattle.std.specs.FinMap as map
use Rattle.byte_maps.specs.Units.{unit_at, zeros}
use Rattle.crc32c_csum.specs.Prelude.{crc32c}
use Rattle.object_model.specs.Prelude.{Object, Objects, object_under}
use Rattle.meta_rows.specs.Prelude.{Rows, row}
use Rattle.meta_log.specs.declared.slot.Super.{Super}
use Rattle.meta_log.specs.Prelude.{AreRowsOf, IsActiveSlot, width_of}
use Rattle.unit_fields.specs.Prelude.{IsName, IsCollName}
use Rattle.unit_fields.specs.declared.width.Width.{Width}
use Rattle.row_format.specs.Prelude.{coll_key, attr_key, header_key, omap_key, onode_key}
use Rattle.store_image.specs.Pages.{HasOnode, PageUnit, IsPageOn, IsHole}
use Rattle.store_image.specs.BadRows.{NoBadRow}

-- ---- the shape of objects: all but their bytes

-- the rows of one object: its size, its attributes, its header and its omap
pub record IsObjectShape (rows : Rows) (c o : List ℕ) (object : Object) : Type 0 where
  pub size : HasOnode rows c o (length object.bytes)
  pub size_most : length object.bytes ≤ 134217728
  pub attr_names : (name : List ℕ) → IsSome (map.get object.attrs name) → IsName name
  pub attrs : (name : List ℕ) → IsName name → map.get object.attrs name ≡ map.get rows (attr_key c o name)
  pub header : object.header ≡ row rows (header_key c o)
  pub omap_keys : (key : List ℕ) → IsSome (map.get object.omap key) → IsName key
  pub omap : (key : List ℕ) → IsName key → map.get object.omap key ≡ map.get rows (omap_key c o key)

-- the rows of collections and objects
pub record IsShape (rows : Rows) (objects : Objects) : Type 0 where
  pub collections : (c : List ℕ) → map.contains_key objects c ≡ map.contains_key rows (coll_key c)
  pub present : (c o : List ℕ) (object : Object) → object_under objects c o ≡ Some object → IsObjectShape rows c o object
  pub missing : (c o : List ℕ) → IsCollName c → IsName o → object_under objects c o ≡ None → map.get rows (onode_key c o) ≡ None

-- ---- the bytes of objects, over a valuation: what bytes each unit holds

-- the bytes that a unit is seen to have: its own (those of a deferred row that names it are to stand before them)
abbrev pub IsSeen : (ℕ → List ℕ) → Rows → ℕ → List ℕ → Type 0
IsSeen at rows unit bytes = bytes ≡ at unit

-- a page of an object's bytes, filled up with zeros to a whole unit
abbrev pub page_bytes : List ℕ → ℕ → List ℕ
page_bytes bytes page = take 4096 (drop (4096 * page) bytes ++ zeros 4096)

-- the page's bytes are seen at its unit, and have the checksum that is kept for them
pub record IsPageSeen (at : ℕ → List ℕ) (rows : Rows) (on : PageUnit) (page : List ℕ) : Type 0 where
  pub seen : IsSeen at rows on.unit page
  pub kept : crc32c page ≡ on.csum

-- the pages of one object: seen where they stand, zeros in holes
pub record AreObjectBytes (w : Width) (at : ℕ → List ℕ) (rows : Rows) (c o : List ℕ) (bytes : List ℕ) : Type 0 where
  pub mapped : (page : ℕ) (on : PageUnit) → IsPageOn w rows c o page on → IsPageSeen at rows on (page_bytes bytes page)
  pub holes : (page : ℕ) → IsHole w rows c o page → page_bytes bytes page ≡ zeros 4096

abbrev pub AreBytes : Width → (ℕ → List ℕ) → Rows → Objects → Type 0
AreBytes w at rows objects = (c o : List ℕ) (object : Object) → object_under objects c o ≡ Some object → AreObjectBytes w at rows c o object.bytes

-- ---- both

-- rows, with checksums of this width, and units stand for these objects
pub record ObjectsStand (w : Width) (at : ℕ → List ℕ) (rows : Rows) (objects : Objects) : Type 0 where
  pub shape : IsShape rows objects
  pub bytes : AreBytes w at rows objects

-- An image stands for these objects: it has an active slot, the records of the active half make rows of which none is bad,
-- and these rows and the image's units stand for the objects.
pub record StandsFor (image : List ℕ) (objects : Objects) : Type 0 where
  pub super : Super
  pub active : IsActiveSlot image super
  pub rows : Rows
  pub read : AreRowsOf image super rows
  pub good : NoBadRow super rows
  pub stand : ObjectsStand (width_of super) (λ unit. unit_at unit image) rows objects

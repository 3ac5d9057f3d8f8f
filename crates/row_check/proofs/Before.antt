-- What the last row that was passed tells of the one that is looked at.
use Rattle.std.proofs.Common.{◌≡◌, ℕ, ◌≤◌, List, [], Option, Some, None, true, MatchOption, refl, sym, ap, subst, ◌∙◌, ◌↔◌}
use Rattle.std.specs.Prelude.{IsSome, IfSome}
use Rattle.std.specs.List.{AllByRecursion}
use Rattle.std.specs.FinMap as map
use Rattle.std.specs.Int.{w64, to_le_bytes}
use Rattle.unit_fields.specs.Prelude.{IsName, IsCollName}
use Rattle.meta_rows.specs.Prelude.{Rows}
use Rattle.meta_log.specs.declared.slot.Super.{Super}
use Rattle.meta_log.specs.Prelude.{width_of}
use Rattle.row_format.specs.Prelude.{coll_key, onode_key, Extent, page_end, onode, ExtentsAscend}
use Rattle.store_image.specs.Prelude.{HasKey, HasRow, HasOnode, pages_of, HasObject, IsInPlace, IsShardInPlace, IsOnData, HasSlots}
use Rattle.onode_codec.specs.Reading.{SpellsOnode}
use Rattle.onode_codec.proofs.Again.{same_onode}
use Rattle.row_reading.specs.declared.row.Row.{Row}
use Rattle.row_reading.specs.declared.row.Row.TheVariants as read
use Rattle.row_reading.specs.Reading.{format_row}
use Rattle.row_check.specs.declared.passed.Passed.{Passed}
use Rattle.row_check.specs.Bad.{IsFirst, IsLast, Knows, IsOfObject, IsPlacedOf, IsPlacedIn, IsOnodeOf, IsWithinOnode, ShardStands}

module _ (s : Super) (rows : Rows) (Before : List ℕ → Type 0) where
  -- what is known of a last row
  abbrev IsLastOf : Option Row → Type 0
  IsLastOf last = MatchOption last (IsFirst (width_of s) rows Before) (λ row. (value : List ℕ) × IsLast (width_of s) rows Before (format_row row value))

  abbrev IsPlaced : Option Row → Type 0
  IsPlaced last = IfSome last (λ row. (value : List ℕ) → IsInPlace s rows (format_row row value))

  same_object : (d u c o : List ℕ) → HasObject rows d u → (d ≡ c) × (u ≡ o) → HasObject rows c o
  same_object d u c o has same = subst (λ n. HasObject rows n o) same.0 (subst (λ n. HasObject rows d n) same.1 has)

  -- a row of an object that is in its place has the object's rows
  object_there : (last : Option Row) (c o : List ℕ) → IsLastOf last → IsPlaced last → IsOfObject last c o → HasObject rows c o
  object_there None c o is placed same = absurd same
  object_there (Some (read.Collection d)) c o is placed same = absurd same
  object_there (Some (read.Blob sbid first slots)) c o is placed same = absurd same
  object_there (Some (read.Bitmap r bits)) c o is placed same = absurd same
  object_there (Some (read.Onode d u size)) c o is placed same =
      let place : IsInPlace s rows (onode d u size) = placed [] in
      same_object d u c o (place.0, subst IsSome (sym is.1.has.stands) refl) same
  object_there (Some (read.Shard d u first es)) c o is placed same =
      let place : IsShardInPlace s rows d u first es = placed [] in same_object d u c o (place.has_collection, place.has_onode) same
  object_there (Some (read.Attribute d u name)) c o is placed same = same_object d u c o (placed []) same
  object_there (Some (read.OmapHeader d u)) c o is placed same = same_object d u c o (placed []) same
  object_there (Some (read.OmapPair d u k)) c o is placed same = same_object d u c o (placed []) same

  onode_there : (last : Option Row) (c o : List ℕ) (size : ℕ) → IsLastOf last → IsOnodeOf last c o size → HasOnode rows c o size
  onode_there None c o size is same = absurd same
  onode_there (Some (read.Collection d)) c o size is same = absurd same
  onode_there (Some (read.Blob sbid first slots)) c o size is same = absurd same
  onode_there (Some (read.Bitmap r bits)) c o size is same = absurd same
  onode_there (Some (read.Shard d u first es)) c o size is same = absurd same
  onode_there (Some (read.Attribute d u name)) c o size is same = absurd same
  onode_there (Some (read.OmapHeader d u)) c o size is same = absurd same
  onode_there (Some (read.OmapPair d u k)) c o size is same = absurd same
  onode_there (Some (read.Onode d u own)) c o size is same = subst (HasRow (width_of s) rows) (λ i. onode (same.0 i) (same.1 i) (same.2 i)) is.1.has

  module _ (p : Passed) (knows : Knows s rows Before p) where
    pub object_before : (c o : List ℕ) → IsPlacedOf p c o → HasObject rows c o
    object_before c o is = object_there p.last c o knows.last_is (knows.placed is.0) is.1

    -- and so its collection's
    pub collection_before : (c : List ℕ) → IsPlacedIn p c → HasKey rows (coll_key c)
    collection_before c is = (object_before c is.0 is.1).0

    pub onode_before : (c o : List ℕ) (size : ℕ) → IsOnodeOf p.last c o size → HasOnode rows c o size
    onode_before c o size is = onode_there p.last c o size knows.last_is is

-- the onode says one size
one_size : (rows : Rows) (c o : List ℕ) (size other : ℕ) → HasOnode rows c o size → HasOnode rows c o other → size ≡ other
one_size rows c o size other a b =
    let same : to_le_bytes w64 size ≡ to_le_bytes w64 other = value (sym a.stands ∙ b.stands) in
    same_onode (to_le_bytes w64 size) size other (record { below = a.fits.2; spelled = refl }) (record { below = b.fits.2; spelled = same })
  where
    value : {x y : List ℕ} → Some x ≡ Some y → x ≡ y
    value e = cc

-- extents within the size that the onode is known to say
pub within_size : (rows : Rows) (c o : List ℕ) (size : ℕ) (es : List Extent) → HasOnode rows c o size
    → AllByRecursion (λ e. page_end e ≤ pages_of size) es ↔ IsWithinOnode rows c o es
within_size rows c o size es has = (
  λ all. record {
    has_onode = subst IsSome (sym has.stands) refl;
    within = λ other there. subst (λ n. AllByRecursion (λ e. page_end e ≤ pages_of n) es) (one_size rows c o size other has there) all;
  },
  λ is. is.within size has,
)

of_onode : (last : Option Row) (c o : List ℕ) (size : ℕ) → IsOnodeOf last c o size → IsOfObject last c o
of_onode None c o size is = absurd is
of_onode (Some (read.Collection d)) c o size is = absurd is
of_onode (Some (read.Blob sbid first slots)) c o size is = absurd is
of_onode (Some (read.Bitmap r bits)) c o size is = absurd is
of_onode (Some (read.Shard d u first es)) c o size is = absurd is
of_onode (Some (read.Attribute d u name)) c o size is = absurd is
of_onode (Some (read.OmapHeader d u)) c o size is = absurd is
of_onode (Some (read.OmapPair d u k)) c o size is = absurd is
of_onode (Some (read.Onode d u own)) c o size is = (is.0, is.1)

-- a shard behind its object's onode, which is in its place
pub behind_onode : (s : Super) (rows : Rows) (p : Passed) (c o : List ℕ) (size : ℕ) (es : List Extent) → (IsPlacedIn p c → HasKey rows (coll_key c))
    → p.in_place ≡ true → IsOnodeOf p.last c o size → HasOnode rows c o size → ExtentsAscend es → AllByRecursion (λ e. IsOnData s e.body) es
    → AllByRecursion (λ e. HasSlots (width_of s) rows c e.body) es
    → AllByRecursion (λ e. page_end e ≤ pages_of size) es ↔ ShardStands s rows c o es
behind_onode s rows p c o size es coll placed is has up on slots =
    let by = within_size rows c o size es has in (
      λ all. record { ascend = up; on_data = on; has_collection = coll (o, (placed, of_onode p.last c o size is)); within_onode = by.0 all; slots = slots },
      λ stands. by.1 stands.within_onode,
    )

-- and within that which the value of the onode's row says
pub within_found : (rows : Rows) (c o value : List ℕ) (es : List Extent) → IsCollName c → IsName o → map.get rows (onode_key c o) ≡ Some value
    → ((size : ℕ) → SpellsOnode value size → AllByRecursion (λ e. page_end e ≤ pages_of size) es) ↔ IsWithinOnode rows c o es
within_found rows c o value es coll object stands = (
  λ all. record {
    has_onode = subst IsSome (sym stands) refl;
    within = λ size has. all size (record { below = has.fits.2; spelled = bytes (sym stands ∙ has.stands) });
  },
  λ is size spelled. is.within size (record { fits = (coll, object, spelled.below); stands = stands ∙ ap Some spelled.spelled }),
)
  where
    bytes : {x y : List ℕ} → Some x ≡ Some y → x ≡ y
    bytes e = cc

-- How long keys and values of rows are.
use Rattle.std.proofs.Common.{◌≡◌, inl, inr, ℕ, ◌+◌, ◌*◌, ◌<◌, ◌≤◌, true, List, [], ◌∷◌, ◌++◌, length, Option, Some, ap, arith, length-append}
use Rattle.std.specs.Prelude.{nat_le}
use Rattle.std.specs.List.{flat_map, AllByRecursion}
use Rattle.std.specs.Int.{w16, w32, w64, to_le_bytes, to_be_bytes}
use Rattle.std.proofs.lemmas.Bool.Decides.{nat_tests}
use Rattle.meta_rows.specs.Prelude.{IsKey}
use Rattle.object_model.specs.Prelude.{object_limit}
use Rattle.unit_fields.specs.Prelude.{IsName, IsCollName, bytes_of}
use Rattle.unit_fields.specs.declared.width.Width.{Width}
use Rattle.unit_fields.specs.declared.width.Width.TheVariants.{FourBytes}
use Rattle.row_format.specs.Prelude.{object_key, coll_key, onode_key, shard_key, shared_key, Slot, slot_bytes, FitsBlob, blob, row_value, Extent, Body, private, shared, page_count, page_end, body_bytes, extent_bytes, FitsBody, FitsExtent, ExtentsAscend, csum_bytes}
use Rattle.row_format.proofs.Prelude.{length-csums}
use Rattle.row_reading.specs.Slots.{slots_size}
use Rattle.row_reading.proofs.SlotReading.{length-slots}
use Rattle.store_image.specs.Prelude.{pages_of}
use Rattle.row_facts.proofs.Lengths.{length-coll}
use Rattle.extent_shards.specs.Prelude.{shard_bytes, shards_of, shard_limit, IsBounded, joined_extents}
use Rattle.extent_shards.proofs.Joins.{shards_back}
use Rattle.extent_shards.proofs.Openings.{HasExtent, all_full}
use Rattle.plan_drafts.specs.Prelude.{ValueKey, attribute, header, pair, value_key, IsValueKey}

-- ---- extents

-- a checksum takes four bytes at most
bytes_most : (w : Width) (n : ℕ) → bytes_of w n ≤ 4 * n
bytes_most FourBytes n = omega arith

length-body : (w : Width) (body : Body) → length (body_bytes w body) ≤ 11 + 4 * page_count body
length-body w (private unit csums) = omega (
  arith,
  length-append (to_le_bytes w32 unit) (flat_map (csum_bytes w) csums),
  length-csums w csums,
  bytes_most w (length csums),
)
length-body w (shared sbid first count) = omega (arith, length-append (to_le_bytes w64 sbid) (to_le_bytes w16 first))

length-extent : (w : Width) (e : Extent) → length (extent_bytes w e) ≤ 17 + 4 * page_count e.body
length-extent w e = omega (
  arith,
  length-append (to_le_bytes w32 e.first) (to_le_bytes w16 (page_count e.body) ++ body_bytes w e.body),
  length-append (to_le_bytes w16 (page_count e.body)) (body_bytes w e.body),
  length-body w e.body,
)

pub has_page : (w : Width) (body : Body) → FitsBody w body → 0 < page_count body
has_page w (private unit csums) fits = fits.1
has_page w (shared sbid first count) fits = fits.2

-- a shard within the bound
alone_short : (w : Width) (e : Extent) → FitsExtent w e → page_count e.body ≤ 256 → length (shard_bytes w (e ∷ [])) ≤ 1200
alone_short w e fits few = omega (arith, length-append (extent_bytes w e) [], length-extent w e, few)

few_pages : (w : Width) (body : Body) → FitsBody w body → page_count body ≤ 256
few_pages w (private unit csums) fits = fits.2
few_pages w (shared sbid first count) fits = fits.3

within_limit : (n : ℕ) → nat_le n 1200 ≡ true → n ≤ 1200
within_limit n is = grind (arith, nat_tests)

pub shard_short : (w : Width) (es : List Extent) → AllByRecursion (FitsExtent w) es → IsBounded w (Some shard_limit) es → length (shard_bytes w es) ≤ 1200
shard_short w es fit (inl within) = within_limit (length (shard_bytes w es)) within
shard_short w [] fit (inr one) = omega arith
shard_short w (e ∷ []) fit (inr one) = alone_short w e fit.0 (few_pages w e.body fit.0.body)
shard_short w (e ∷ (f ∷ es)) fit (inr one) = absurd (omega (arith, one))

-- ascending extents have each a page from the first on
few_from : (w : Width) (es : List Extent) (n limit : ℕ) → n ≤ limit → ExtentsAscend es → AllByRecursion (λ e. n ≤ e.first) es
    → AllByRecursion (λ e. page_end e ≤ limit) es → AllByRecursion (FitsExtent w) es → length es + n ≤ limit
few_from w [] n limit le ascend from within fit = omega (arith, le)
few_from w (e ∷ es) n limit le ascend from within fit = omega (
  arith,
  has_page w e.body fit.0.body,
  from.0,
  few_from w es (page_end e) limit within.0 ascend.1 ascend.0 within.1 fit.1,
)

pub from_zero : (es : List Extent) → AllByRecursion (λ e. 0 ≤ e.first) es
from_zero [] = tt
from_zero (e ∷ es) = (omega arith, from_zero es)

-- ---- operations

pub length-onode_key : (c o : List ℕ) → length (onode_key c o) ≡ 4 + length c + length o
length-onode_key c o = omega (arith, length-append c (0 ∷ (o ++ 0 ∷ (0x6f ∷ []))), length-append o (0 ∷ (0x6f ∷ [])))

pub length-shard_key : (c o : List ℕ) (page : ℕ) → length (shard_key c o page) ≡ 9 + length c + length o
length-shard_key c o page = omega (
  arith,
  length-append c (0 ∷ (o ++ 0 ∷ (0x6f ∷ to_be_bytes w32 page ++ 0x78 ∷ []))),
  length-append o (0 ∷ (0x6f ∷ to_be_bytes w32 page ++ 0x78 ∷ [])),
)

pub length-object_key : (kind : ℕ) (c o rest : List ℕ) → length (object_key kind c o rest) ≡ 3 + length c + length o + length rest
length-object_key kind c o rest = omega (arith, length-append c (0 ∷ (o ++ 0 ∷ rest)), length-append o (0 ∷ rest))

module _ (c o : List ℕ) (coll : IsCollName c) (name : IsName o) where
  pub onode_fits : IsKey (onode_key c o)
  onode_fits = record { some = omega arith; short = omega (arith, length-onode_key c o, length-coll c coll, name.short) }

  pub shard_fits : (page : ℕ) → IsKey (shard_key c o page)
  shard_fits page = record { some = omega arith; short = omega (arith, length-shard_key c o page, length-coll c coll, name.short) }

  pub value_fits : (k : ValueKey) → IsValueKey k → IsKey (value_key c o k)
  value_fits (attribute n) named = record { some = omega arith; short = omega (arith, length-object_key 0x41 c o n, length-coll c coll, name.short, named.short) }
  value_fits header named = record { some = omega arith; short = omega (arith, length-object_key 0x4d c o (0x2d ∷ []), length-coll c coll, name.short) }
  value_fits (pair q) named = record { some = omega arith; short = omega (arith, length-object_key 0x4d c o (0x2e ∷ q), length-coll c coll, name.short, named.short) }

-- ---- blobs

pub shared_fits : (sbid : ℕ) → IsKey (shared_key sbid)
shared_fits sbid = record { some = omega arith; short = omega arith }

-- a blob's row is as long as its slots are many
pub length-blob : (w : Width) (sbid first : ℕ) (slots : List Slot) → length (row_value w (blob sbid first slots)) ≡ 6 + slots_size w (length slots)
length-blob w sbid first slots = omega (
  arith,
  length-append (to_le_bytes w32 first) (to_le_bytes w16 (length slots) ++ flat_map (slot_bytes w) slots),
  length-append (to_le_bytes w16 (length slots)) (flat_map (slot_bytes w) slots),
  length-slots w slots,
)

pub blob_short : (w : Width) (sbid first : ℕ) (slots : List Slot) → FitsBlob w sbid first slots → length (row_value w (blob sbid first slots)) ≤ 65535
blob_short w sbid first slots fits = omega (arith, length-blob w sbid first slots, bytes_most w (length slots), fits.few)

-- ---- collections and shards

pub coll_fits : (c : List ℕ) → IsCollName c → IsKey (coll_key c)
coll_fits c coll = record { some = omega arith; short = omega (arith, length-coll c coll) }

-- so are the extents of an object of a size within the limit, and its shards
few_extents : (w : Width) (extents : List Extent) (size : ℕ) → size ≤ object_limit → ExtentsAscend extents
    → AllByRecursion (λ e. page_end e ≤ pages_of size) extents → AllByRecursion (FitsExtent w) extents → length extents ≤ 32768
few_extents w extents size most ascend within fit =
    let pages : pages_of size ≤ 32768 = omega (arith, most) in
    omega (arith, few_from w extents 0 (pages_of size) (omega arith) ascend (from_zero extents) within fit, pages)

fewer_shards : (shards : List (List Extent)) → AllByRecursion HasExtent shards → length shards ≤ length (joined_extents shards)
fewer_shards [] full = omega arith
fewer_shards ([] ∷ shards) full = absurd full.0
fewer_shards ((e ∷ es) ∷ shards) full = omega (arith, length-append es (joined_extents shards), fewer_shards shards full.1)

pub few_shards : (w : Width) (bound : Option ℕ) (extents : List Extent) (size : ℕ) → size ≤ object_limit → ExtentsAscend extents
    → AllByRecursion (λ e. page_end e ≤ pages_of size) extents → AllByRecursion (FitsExtent w) extents → length (shards_of w bound extents) ≤ 32768
few_shards w bound extents size most ascend within fit = omega (
  arith,
  fewer_shards (shards_of w bound extents) (all_full w bound extents),
  ap length (shards_back w bound extents),
  few_extents w extents size most ascend within fit,
)

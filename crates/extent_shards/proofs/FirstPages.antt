-- The first page of a shard, by the value of its row.
use Rattle.std.proofs.Common.{◌≡◌, ℕ, List, [], ◌∷◌, ◌++◌, length, sym, ap, ◌∙◌, arith}
use Rattle.std.specs.List.{flat_map}
use Rattle.std.proofs.lemmas.List.Concat.{flat_map-cons}
use Rattle.unit_fields.specs.declared.width.Width.{Width}
use Rattle.row_format.specs.Prelude.{Extent, Body, extent_bytes, FitsExtent, BeginsAt}
use Rattle.onode_codec.specs.declared.extent.Head.{Head}
use Rattle.onode_codec.specs.Reading.{BeginsWithNoExtent, ReadsHead, SpellExtents}
use Rattle.onode_codec.proofs.ExtentReading.{head_front}
use Rattle.extent_shards.specs.Prelude.{IsShardValue}

-- it is that of the head at the front
first_read : (w : Width) (value mid rest : List ℕ) (h : Head) (first : ℕ) (b : Body) → ReadsHead value mid h
    → FitsExtent w (record { first = first; body = b })
    → value ≡ extent_bytes w (record { first = first; body = b }) ++ rest → first ≡ h.first
first_read w value mid rest h first b read fits is = sym (head_front w value mid rest h first b read fits is).first_is

pub page_read : (w : Width) (value mid : List ℕ) (h : Head) → ReadsHead value mid h → (es : List Extent) → SpellExtents w value es
    → BeginsAt h.first es
page_read w value mid h read [] spelled = absurd (omega (arith, ap length (sym read.spelled ∙ spelled.spelled)))
page_read w value mid h read (e ∷ es) spelled =
    first_read w value mid (flat_map (extent_bytes w) es) h e.first e.body read spelled.fit.0 (spelled.spelled ∙ flat_map-cons (extent_bytes w) e es)

-- there is one
pub head_there : (w : Width) (value : List ℕ) → IsShardValue w value → BeginsWithNoExtent w value → ⊥
head_there w value of_shard none = there of_shard.extents of_shard.begins of_shard.spelled
  where
    there : (es : List Extent) → BeginsAt of_shard.page es → SpellExtents w value es → ⊥
    there [] begins spelled = begins
    there (e ∷ es) begins spelled = none e (flat_map (extent_bytes w) es) spelled.fit.0 (spelled.spelled ∙ flat_map-cons (extent_bytes w) e es)

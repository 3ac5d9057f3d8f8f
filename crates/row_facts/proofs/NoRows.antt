-- No rows, and no objects.
use Rattle.std.proofs.Common.{◌≡◌, ℕ, ◌%◌, List, [], Option, None, sym, ap, ◌∙◌, arith}
use Rattle.std.specs.FinMap as map
use Rattle.byte_maps.specs.ByteMap.{byte_order}
use Rattle.unit_fields.specs.declared.width.Width.{Width}
use Rattle.meta_rows.specs.Prelude.{Rows}
use Rattle.meta_log.specs.declared.slot.Super.{Super}
use Rattle.object_model.specs.Prelude.{Collection, object_under}
use Rattle.row_format.specs.Prelude.{coll_key, onode_key, bitmap_key, bit_row, bit_in, Row, row_key, shard, blob}
use Rattle.store_image.specs.Prelude.{HasRow, NoBadRow, Owner, page_of, slot_of, Owns, IsOwned, bit_of, IsMarked, IsExact, ObjectsStand}
use Rattle.std.specs.Prelude.{option_and_then, is_some, unwrap_or}
use Rattle.std.proofs.lemmas.Nat.Bits.{bit_at-zero}

abbrev none : Rows
none = map.empty

no_row : (w : Width) (row : Row) → HasRow w none row → ⊥
no_row w row has = let e = sym (map.get-empty byte_order (row_key row)) ∙ has.stands in absurd cc

nobody : (w : Width) (owner : Owner) (unit : ℕ) → Owns w none owner unit → ⊥
nobody w (page_of c o page) unit owns = no_row w (shard c o owns.1.first owns.1.extents) owns.1.has_shard
nobody w (slot_of sbid index) unit owns = no_row w (blob sbid owns.1.0.first owns.1.0.slots) owns.1.0.has_blob

no_object : (c o : List ℕ) → object_under map.empty c o ≡ None
no_object c o = ap (λ (x : Option Collection). option_and_then (λ (found : Collection). map.get found o) x) (map.get-empty byte_order c)

pub none_good : (s : Super) → NoBadRow s none
none_good s key value stands = absurd (let e = sym (map.get-empty byte_order key) ∙ stands in cc)

pub none_stand : (w : Width) (at : ℕ → List ℕ) → ObjectsStand w at none map.empty
none_stand w at = record {
  shape = record {
    collections = λ c. ap is_some (map.get-empty byte_order c) ∙ sym (ap is_some (map.get-empty byte_order (coll_key c)));
    present = λ c o object is. absurd (let e = sym (no_object c o) ∙ is in cc);
    missing = λ c o coll name is. map.get-empty byte_order (onode_key c o);
  };
  bytes = λ c o object is. absurd (let e = sym (no_object c o) ∙ is in cc);
}

pub none_owned : (w : Width) (unit : ℕ) → ¬ IsOwned w none unit
none_owned w unit owned = nobody w owned.0 unit owned.1

-- no bit is 1, so the bitmap is exact
pub none_marked : (unit : ℕ) → ¬ IsMarked none unit
none_marked unit marked =
    let is : bit_of none unit ≡ 0 =
    ap (λ (o : Option (List ℕ)). bit_in (unwrap_or o []) unit) (map.get-empty byte_order (bitmap_key (bit_row unit))) ∙ bit_at-zero (unit % 8) in
    omega (arith, marked, is)

pub none_exact : (w : Width) → IsExact w none
none_exact w = record {
  marked = λ unit small marked. absurd (none_marked unit marked);
  owned_marked = λ unit owned. absurd (none_owned w unit owned);
  one_owner = λ unit a b owns others. absurd (none_owned w unit (a, owns));
  counts = λ sbid index unit is has. absurd (no_row w (blob sbid has.first has.slots) has.has_blob);
}

-- what the laws cite
pub ruleset none_laws = (none_good)

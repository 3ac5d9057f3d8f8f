-- Rows after a collection is made.
use Rattle.std.proofs.Common.{◌≡◌, ◌≢◌, inl, inr, ℕ, List, [], ◌∷◌, length, Option, Some, None, Ok, is_some, option_and_then, refl, sym, ap, subst, ◌∙◌, ◌↔◌, arith}
use Rattle.std.specs.FinMap as map
use Rattle.meta_rows.specs.Prelude.{Rows, rows_after}
use Rattle.meta_log.specs.declared.slot.Super.{Super}
use Rattle.meta_log.specs.Prelude.{width_of}
use Rattle.object_model.specs.Prelude.{Collection, Objects, effects, with_collection, transaction_effect, object_under, ◌>>=◌}
use Rattle.object_model.specs.declared.op.Op.TheVariants.{MkColl}
use Rattle.unit_fields.specs.Prelude.{IsCollName}
use Rattle.unit_fields.specs.declared.width.Width.{Width}
use Rattle.byte_maps.specs.ByteMap.{byte_order}
use Rattle.row_format.specs.Prelude.{coll_key, onode_key, shared_key, Extent, own, slot, Slot, Row, collection, onode, shard, blob}
use Rattle.row_format.proofs.Prelude.{same_head, same_coll, coll_no_object, bitmap_no_coll}
use Rattle.store_image.specs.Prelude.{HasRow, HasOnode, HasShard, HasSlot, NoBadRow, Owner, page_of, slot_of, Owns, IsOwned, IsMarked, IsExactBut, HasSoleOwner, IsCounted, CountsAreExact, IsShape, ObjectsStand}
use Rattle.store_image.proofs.Prelude.{equal_or_not, slot_still, Carries, carried}
use Rattle.row_facts.specs.Operations.{coll_ops, coll_change}
use Rattle.row_facts.proofs.Bits.{bits_stay_set, exact_stays}
use Rattle.row_facts.proofs.Maps.{get_same, get_other}
use Rattle.row_facts.proofs.PutRow.{put_row, key_kept, row_kept, row_cases, good_after, IsApart, page_kept, page_was}
use Rattle.row_facts.proofs.Shapes.{SameOthers, shape_kept, bytes_kept}

-- the effect of the transaction
pub coll_effect : (objects : Objects) (c : List ℕ) → map.get objects c ≡ None → transaction_effect (coll_change c) objects ≡ Ok (map.insert objects c map.empty)
coll_effect objects c none = ap (λ x. effects (MkColl ∷ []) x >>= λ y. Ok (with_collection objects c y)) none

module _ (w : Width) (rows : Rows) (c : List ℕ) where
  abbrev r : Row
  r = collection c

  -- an onode or a shard stays as it is
  key_apart : (d u rest : List ℕ) → onode_key d u ≢ coll_key c
  key_apart d u rest e = coll_no_object c d u _ (sym e)

  shard_apart : (d u : List ℕ) → IsApart w rows r d u
  shard_apart d u page es fits e = coll_no_object c d u _ (sym e)

  no_blob : (sbid : ℕ) → shared_key sbid ≢ coll_key c
  no_blob sbid e = omega (arith, same_head _ _ _ _ e)

  same_blobs : (sbid : ℕ) → map.get (put_row w rows r) (shared_key sbid) ≡ map.get rows (shared_key sbid)
  same_blobs sbid = get_other rows (coll_key c) [] (shared_key sbid) (no_blob sbid)

  slot_kept : (sbid index at : ℕ) (x : Slot) → HasSlot w rows sbid index at x → HasSlot w (rows_after rows (coll_ops c)) sbid index at x
  slot_kept sbid index at x has = slot_still w rows (put_row w rows r) sbid index at x (same_blobs sbid) has

  slot_was : (sbid index at : ℕ) (x : Slot) → HasSlot w (rows_after rows (coll_ops c)) sbid index at x → HasSlot w rows sbid index at x
  slot_was sbid index at x has = slot_still w (put_row w rows r) rows sbid index at x (sym (same_blobs sbid)) has

  was_blob : IsCollName c → (sbid first : ℕ) (slots : List Slot) → HasRow w (put_row w rows r) (blob sbid first slots) → HasRow w rows (blob sbid first slots)
  was_blob name sbid first slots has = elim (row_cases w rows r name (blob sbid first slots) has) [ inl e ↦ absurd cc | inr old ↦ old.0 ]

  was_onode : IsCollName c → (d u : List ℕ) (size : ℕ) → HasOnode (put_row w rows r) d u size → HasOnode rows d u size
  was_onode name d u size has = elim (row_cases w rows r name (onode d u size) has) [ inl e ↦ absurd cc | inr old ↦ old.0 ]

  was_shard : IsCollName c → (d u : List ℕ) (page : ℕ) (es : List Extent) → HasShard w (put_row w rows r) d u page es → HasShard w rows d u page es
  was_shard name d u page es has = elim (row_cases w rows r name (shard d u page es) has) [ inl e ↦ absurd cc | inr old ↦ old.0 ]

  pub coll_owners : (owner : Owner) (unit : ℕ) → Owns w (rows_after rows (coll_ops c)) owner unit ↔ Owns w rows owner unit
  coll_owners (page_of d u page) unit = (
    λ owns. (owns.0, page_was w rows r d u (shard_apart d u) page (own unit owns.0) owns.1),
    λ owns. (owns.0, page_kept w rows r d u (shard_apart d u) page (own unit owns.0) owns.1),
  )
  coll_owners (slot_of sbid index) unit = (
    λ owns. (owns.0, (slot_was sbid index unit owns.0 owns.1.0, owns.1.1)),
    λ owns. (owns.0, (slot_kept sbid index unit owns.0 owns.1.0, owns.1.1)),
  )

  -- the same pages name each slot
  coll_counted : (sbid index count : ℕ) → IsCounted w rows sbid index count → IsCounted w (rows_after rows (coll_ops c)) sbid index count
  coll_counted sbid index count is = record {
    pages = is.pages;
    namers = record {
      each = λ p. (
        λ has. page_kept w rows r p.coll p.object (shard_apart p.coll p.object) p.page (slot sbid index) ((is.namers.each p).0 has),
        λ names. (is.namers.each p).1 (page_was w rows r p.coll p.object (shard_apart p.coll p.object) p.page (slot sbid index) names),
      );
      once = is.namers.once;
    };
    count_is = is.count_is;
  }

  coll_counts : CountsAreExact w rows → CountsAreExact w (rows_after rows (coll_ops c))
  coll_counts counts sbid index unit x has = coll_counted sbid index x.count (counts sbid index unit x (slot_was sbid index unit x has))

  pub coll_owned : (unit : ℕ) → IsOwned w (rows_after rows (coll_ops c)) unit ↔ IsOwned w rows unit
  coll_owned unit = (
    λ owned. (owned.0, (coll_owners owned.0 unit).0 owned.1),
    λ owned. (owned.0, (coll_owners owned.0 unit).1 owned.1),
  )

  pub coll_sole : (unit : ℕ) → HasSoleOwner w rows unit → HasSoleOwner w (rows_after rows (coll_ops c)) unit
  coll_sole unit sole a b p q = sole a b ((coll_owners a unit).0 p) ((coll_owners b unit).0 q)

  -- nor does a bit change
  pub coll_bits : (unit : ℕ) → IsMarked (rows_after rows (coll_ops c)) unit ↔ IsMarked rows unit
  coll_bits unit = bits_stay_set rows (coll_key c) [] (λ q e. bitmap_no_coll q c e) unit

  pub coll_exact : (leaked : ℕ → Type 0) → IsExactBut w leaked rows → IsExactBut w leaked (rows_after rows (coll_ops c))
  coll_exact leaked exact = exact_stays w rows (rows_after rows (coll_ops c)) coll_bits coll_owned (λ unit sole. coll_sole unit sole) coll_counts leaked exact

  module _ (objects : Objects) (none : map.get objects c ≡ None) where
    -- the objects are the same, each under its name
    same_under : (d u : List ℕ) → object_under (map.insert objects c map.empty) d u ≡ object_under objects d u
    same_under d u = elim (equal_or_not d c) [
      | inl e ↦ ap (λ x. object_under (map.insert objects c map.empty) x u) e
          ∙ ap (λ (x : Option Collection). option_and_then (λ (found : Collection). map.get found u) x) (get_same objects c map.empty)
          ∙ map.get-empty byte_order u
          ∙ ap (λ (x : Option Collection). option_and_then (λ (found : Collection). map.get found u) x) (sym none) ∙ ap (λ x. object_under objects x u) (sym e)
      | inr apart ↦ ap (λ (x : Option Collection). option_and_then (λ (found : Collection). map.get found u) x) (get_other objects c map.empty d apart)
    ]

    same_colls : (d : List ℕ) → map.contains_key objects d ≡ map.contains_key rows (coll_key d)
        → map.contains_key (map.insert objects c map.empty) d ≡ map.contains_key (put_row w rows r) (coll_key d)
    same_colls d is = elim (equal_or_not d c) [
      | inl e ↦ ap (λ x. map.contains_key (map.insert objects c map.empty) x) e ∙ ap is_some (get_same objects c map.empty)
          ∙ sym (ap is_some (get_same rows (coll_key c) [])) ∙ ap (λ x. map.contains_key (put_row w rows r) (coll_key x)) (sym e)
      | inr apart ↦ ap is_some (get_other objects c map.empty d apart) ∙ is
          ∙ sym (ap is_some (get_other rows (coll_key c) [] (coll_key d) (λ e. apart (same_coll d c e))))
    ]

    same_onode : (d u : List ℕ) → map.get (put_row w rows r) (onode_key d u) ≡ map.get rows (onode_key d u)
    same_onode d u = get_other rows (coll_key c) [] (onode_key d u) (key_apart d u [])

    onode_kept : (d u : List ℕ) (size : ℕ) → HasOnode rows d u size → HasOnode (put_row w rows r) d u size
    onode_kept d u size has = row_kept w rows r (onode d u size) has (key_apart d u [])

    same_others : SameOthers rows (put_row w rows r)
    same_others k rest other object bits = get_other rows (coll_key c) [] (k ∷ rest) (λ e. other (same_head _ _ _ _ e))

    pub coll_shape : IsShape rows objects → IsShape (rows_after rows (coll_ops c)) (map.insert objects c map.empty)
    coll_shape shape = record {
      collections = λ d. same_colls d (shape.collections d);
      present = λ d u object is.
          let old = shape.present d u object (sym (same_under d u) ∙ is) in
          shape_kept rows (put_row w rows r) d u object same_others (onode_kept d u (length object.bytes) old.size) old;
      missing = λ d u coll name is. same_onode d u ∙ shape.missing d u coll name (sym (same_under d u) ∙ is);
    }

    pub coll_stand : (at : ℕ → List ℕ) → ObjectsStand w at rows objects
        → ObjectsStand w at (rows_after rows (coll_ops c)) (map.insert objects c map.empty)
    coll_stand at p = record {
      shape = coll_shape p.shape;
      bytes = λ d u object is. bytes_kept w at at rows r d u object.bytes (shard_apart d u) no_blob (λ unit owned. refl)
          (p.bytes d u object (sym (same_under d u) ∙ is));
    }

-- what the transaction makes, where it is not refused
pub coll_after : (objects after : Objects) (c : List ℕ) → transaction_effect (coll_change c) objects ≡ Ok after
    → (map.get objects c ≡ None) × (after ≡ map.insert objects c map.empty)
coll_after objects after c is = elim (map.get objects c) as (λ x. map.get objects c ≡ x → (x ≡ None) × (after ≡ map.insert objects c map.empty)) [
  | None ↦ λ p. (refl, (let e : Ok after ≡ Ok (map.insert objects c map.empty) = sym is ∙ coll_effect objects c p in cc))
  | Some found ↦ λ p. absurd (let e = sym (ap (λ x. effects (MkColl ∷ []) x >>= λ y. Ok (with_collection objects c y)) p) ∙ is in cc)
] refl

-- ---- good rows

carries : (s : Super) (rows : Rows) (c : List ℕ) → IsCollName c → Carries s s rows (put_row (width_of s) rows (collection c))
carries s rows c name = record {
  coll = λ d. key_kept (width_of s) rows (collection c) (coll_key d);
  onode = λ d u. key_kept (width_of s) rows (collection c) (onode_key d u);
  was_size = was_onode (width_of s) rows c name;
  was_shard = was_shard (width_of s) rows c name;
  blob_key = λ sbid. key_kept (width_of s) rows (collection c) (shared_key sbid);
  was_blob = was_blob (width_of s) rows c name;
  are_data = λ first count is. is;
  of_data = λ unit is. is;
}

pub coll_good : (s : Super) (rows : Rows) (c : List ℕ) → IsCollName c → NoBadRow s rows → NoBadRow s (rows_after rows (coll_ops c))
coll_good s rows c name good = good_after (width_of s) rows (collection c) s name good tt (λ x has apart is. carried s s rows (put_row (width_of s) rows (collection c)) (carries s rows c name) x is)

pub coll_stands : (w : Width) (at : ℕ → List ℕ) (rows : Rows) (objects after : Objects) (c : List ℕ) → ObjectsStand w at rows objects
    → transaction_effect (coll_change c) objects ≡ Ok after → ObjectsStand w at (rows_after rows (coll_ops c)) after
coll_stands w at rows objects after c p is =
    let e = coll_after objects after c is in
    subst (ObjectsStand w at (rows_after rows (coll_ops c))) (sym e.1) (coll_stand w rows c objects e.0 at p)

-- what the laws cite
pub ruleset coll_laws = (coll_good, coll_sole)

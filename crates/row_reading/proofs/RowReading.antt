-- Which keys and values are which rows.
use Rattle.std.proofs.Common.{◌≡◌, ◌≢◌, ◌↔◌, ℕ, ◌^◌, ◌<◌, ◌≤◌, Bool, true, false, not, IsTrue, List, [], ◌∷◌, ◌++◌, Some, length, append-nil, refl, sym, ap, subst, ◌∙◌, arith}
use Rattle.std.specs.List.{flat_map}
use Rattle.std.specs.Int.{w16, w32, w64, to_be_bytes, to_le_bytes, from_le_bytes}
use Rattle.std.proofs.lemmas.List.{length-append}
use Rattle.meta_rows.proofs.FieldLemmas.{number_front, wide16, wide32}
use Rattle.unit_fields.specs.Prelude.{IsName, IsCollName}
use Rattle.unit_fields.specs.declared.width.Width.{Width}
use Rattle.meta_rows.specs.Prelude.{all_zero}
use Rattle.row_format.specs.Prelude.{onode_key, shard_key, header_key, shared_key, bitmap_key, Extent, BeginsAt, Slot, slot_bytes, slots_read, collection, onode, shard, attribute, omap_header, omap_pair, blob, bitmap, an_onode, a_shard, an_omap_header, a_shared_blob, thing_of}
use Rattle.row_format.specs.Things.{Thing}
use Rattle.row_format.specs.Row as format
use Rattle.row_format.proofs.Prelude.{begins_b, onode_again, shard_again, header_again, shared_again, reads_row}
unfoldable use Rattle.row_format.specs.Prelude.{extents_read}
use Rattle.onode_codec.specs.Reading.{SpellExtents}
use Rattle.onode_codec.proofs.Again.{same_extents}
use Rattle.row_reading.specs.declared.key.Part.TheVariants.{Onode, Shard, Attribute, OmapHeader, OmapPair}
use Rattle.row_reading.specs.declared.key.RowKey.TheVariants.{Collection, Object, Blob, Bitmap}
use Rattle.row_reading.specs.Reading.{IsNoKey, SpellsRow, IsNoRow}
use Rattle.row_reading.specs.Slots.{slots_size, ReadsSlots, ReadsRun, BeginsWithNoRun}
use Rattle.row_reading.proofs.SlotReading.{length-slots}

-- the key of a row names something
pub no_row : (w : Width) (key value : List ℕ) → IsNoKey key → IsNoRow w key value
no_row w key value none (collection c) s = none (Collection c) (record { fits = s.fits; spelled = s.key_is })
no_row w key value none (onode c o size) s = none (Object c o Onode) (record { fits = (s.fits.0, s.fits.1, tt); spelled = s.key_is })
no_row w key value none (shard c o page es) s =
    none (Object c o (Shard page)) (record { fits = (s.fits.coll_name, s.fits.object_name, s.fits.page_below); spelled = s.key_is })
no_row w key value none (attribute c o name v) s =
    none (Object c o (Attribute name)) (record { fits = (s.fits.coll_name, s.fits.object_name, s.fits.named); spelled = s.key_is })
no_row w key value none (omap_header c o v) s =
    none (Object c o OmapHeader) (record { fits = (s.fits.coll_name, s.fits.object_name, tt); spelled = s.key_is })
no_row w key value none (omap_pair c o k v) s =
    none (Object c o (OmapPair k)) (record { fits = (s.fits.coll_name, s.fits.object_name, s.fits.named); spelled = s.key_is })
no_row w key value none (blob sbid first slots) s = none (Blob sbid) (record { fits = s.fits.number; spelled = s.key_is })
no_row w key value none (bitmap r bits) s = none (Bitmap r) (record { fits = s.fits.below; spelled = s.key_is })

-- a key and a value spell no other row than the one that the value says of what the key names
only : (w : Width) (key value : List ℕ) (t : Thing) (x r : format.Row) → thing_of key ≡ Some t → format.row_of w t value ≡ Some x
    → SpellsRow w key value r → SpellsRow w key value x
only w key value t x r named says s = subst (SpellsRow w key value) (reads_row w r x key value t s.fits s.key_is s.value_is named says) s

module _ (w : Width) (c o : List ℕ) (coll : IsCollName c) (object : IsName o) where
  pub no_onode : (value : List ℕ) → length value ≢ 8 → IsNoRow w (onode_key c o) value
  no_onode value other r s =
      let x = onode c o (from_le_bytes w64 value) in
      other (ap length (only w (onode_key c o) value (an_onode c o) x r (onode_again c o coll object) refl s).value_is)

  module _ (page : ℕ) (below : page < 2 ^ 32) (value : List ℕ) where
    -- a row with this key is a shard of this page
    only_shard : (r : format.Row) → SpellsRow w (shard_key c o page) value r → (es : List Extent) × SpellExtents w value es × BeginsAt page es
    only_shard r s =
        let x = shard c o page (extents_read w value) in
        let is = only w (shard_key c o page) value (a_shard c o page) x r (shard_again c o page coll object below) refl s in
        (extents_read w value, record { fit = is.fits.fit; spelled = is.value_is }, is.fits.begins)

    pub no_extents : ((es : List Extent) → ¬ (SpellExtents w value es)) → IsNoRow w (shard_key c o page) value
    no_extents none r s = let is = only_shard r s in none is.0 is.1

    pub other_page : (es : List Extent) → SpellExtents w value es → ¬ (BeginsAt page es) → IsNoRow w (shard_key c o page) value
    other_page es is none r s =
        let found = only_shard r s in
        none (subst (BeginsAt page) (same_extents w value found.0 es found.1 is) found.2)

  -- a value that is empty, or too long
  pub no_header : (value : List ℕ) → (0 < length value → length value ≤ 65535 → ⊥) → IsNoRow w (header_key c o) value
  no_header value none r s =
      let is = only w (header_key c o) value (an_omap_header c o) (omap_header c o value) r (header_again c o coll object) refl s in
      none is.fits.some is.fits.short

-- ---- shared blobs

empty : (l : List ℕ) → length l ≡ 0 → l ≡ []
empty [] none = refl
empty (x ∷ l) none = absurd (omega (arith, none))

module _ (w : Width) (sbid : ℕ) (below : sbid < 2 ^ 64) (value : List ℕ) where
  abbrev there : List Slot
  there = slots_read w value

  -- a row with this key is a blob
  only_blob : (r : format.Row) → SpellsRow w (shared_key sbid) value r → SpellsRow w (shared_key sbid) value (blob sbid (from_le_bytes w32 value) there)
  only_blob r s =
      only w (shared_key sbid) value (a_shared_blob sbid) (blob sbid (from_le_bytes w32 value) there) r (shared_again sbid below) refl s

  pub no_run : BeginsWithNoRun value → IsNoRow w (shared_key sbid) value
  no_run none r s =
      let is = only_blob r s in
      none (from_le_bytes w32 value) (length there) (flat_map (slot_bytes w) there)
      (record { unit = is.fits.unit; some = is.fits.some; few = is.fits.few }) is.value_is

  module _ (mid : List ℕ) (first count : ℕ) (run : ReadsRun value mid first count) where
    -- behind the run there are the bytes of as many slots
    bytes_behind : (r : format.Row) → SpellsRow w (shared_key sbid) value r → length mid ≡ slots_size w count
    bytes_behind r s =
        let is = only_blob r s in
        let one = number_front w32 (2 ^ 32) wide32 first (from_le_bytes w32 value) (to_le_bytes w16 count ++ mid)
        (to_le_bytes w16 (length there) ++ flat_map (slot_bytes w) there) run.run.unit is.fits.unit (sym run.spelled ∙ is.value_is) in
        let two = number_front w16 (2 ^ 16) wide16 count (length there) mid (flat_map (slot_bytes w) there) (omega (arith, run.run.few))
        (omega (arith, is.fits.few)) one.1 in
        ap length two.1 ∙ length-slots w there ∙ ap (slots_size w) (sym two.0)

    pub few_slots : length mid < slots_size w count → IsNoRow w (shared_key sbid) value
    few_slots few r s = absurd (omega (arith, few, bytes_behind r s))

    module _ (new : List ℕ) (xs : List Slot) (slots : ReadsSlots w count mid new xs) where
      pub more_bytes : new ≢ [] → IsNoRow w (shared_key sbid) value
      more_bytes some r s =
          let none : length new ≡ 0 = omega (
            arith,
            bytes_behind r s,
            ap length slots.spelled,
            length-append (flat_map (slot_bytes w) xs) new,
            length-slots w xs,
            ap (slots_size w) slots.size,
          ) in
          some (empty new none)

      pub is_blob : new ≡ [] → SpellsRow w (shared_key sbid) value (blob sbid first xs)
      is_blob none = record {
        fits = record {
          number = below;
          unit = run.run.unit;
          some = omega (arith, slots.size, run.run.some);
          few = omega (arith, slots.size, run.run.few);
          fit = slots.fit;
        };
        key_is = refl;
        value_is = run.spelled
            ∙ ap (λ (l : List ℕ). to_le_bytes w32 first ++ (to_le_bytes w16 count ++ l))
            (slots.spelled ∙ ap (λ (l : List ℕ). flat_map (slot_bytes w) xs ++ l) none ∙ append-nil (flat_map (slot_bytes w) xs))
            ∙ ap (λ (n : ℕ). to_le_bytes w32 first ++ (to_le_bytes w16 n ++ flat_map (slot_bytes w) xs)) (sym slots.size);
      }

-- a value that isn't 16 bytes, or has no byte other than zero
pub no_bits : (w : Width) (row : ℕ) (value : List ℕ) → ((length value ≡ 16) → (all_zero value ≡ false) → ⊥) → IsNoRow w (bitmap_key row) value
no_bits w row value none r s =
    let is = begins_b w (to_be_bytes w32 row) r s.fits s.key_is in
    let fits : format.FitsRow w (bitmap is.0 is.1) = subst (format.FitsRow w) is.2 s.fits in
    let value_is : value ≡ is.1 = s.value_is ∙ ap (format.row_value w) is.2 in
    none (ap length value_is ∙ fits.size) (ap all_zero value_is ∙ fits.some)

-- 16 bytes are bits where one isn't zero
pub bits_test : (value : List ℕ) (zero : Bool) → zero ≡ all_zero value → length value ≡ 16
    → IsTrue (not zero) ↔ ((length value ≡ 16) × (all_zero value ≡ false))
bits_test value true e size = (λ is. absurd cc, λ both. let other = both.1 in absurd cc)
bits_test value false e size = (λ is. (size, sym e), λ both. refl)

-- A row by its key and its value.
use Rattle.std.proofs.Common.{◌≡◌, ℕ, List, Some, refl, sym, ap, ◌∙◌, arith}
use Rattle.std.specs.Prelude.{unwrap_or}
use Rattle.std.proofs.lemmas.Nat.{from_le_bytes-to_le_bytes_4, from_le_bytes-to_le_bytes_8}
use Rattle.unit_fields.specs.declared.width.Width.{Width}
use Rattle.row_format.specs.Prelude.{Row, collection, onode, shard, attribute, omap_header, omap_pair, blob, bitmap, row_key, row_value, row_thing, row_of, FitsRow, IsOfSameThing, thing_of}
use Rattle.row_format.specs.Things.{Thing}
use Rattle.row_format.proofs.ThingLemmas.{collection_again, onode_again, shard_again, attribute_again, header_again, pair_again, shared_again, bitmap_again}
use Rattle.row_format.proofs.ExtentReading.{read_all}
use Rattle.row_format.proofs.SlotReading.{slots_again}

-- the key of a row names what the row is of
pub thing_again : (w : Width) (a : Row) → FitsRow w a → thing_of (row_key a) ≡ Some (row_thing a)
thing_again w (collection c) fits = collection_again c
thing_again w (onode c o size) fits = onode_again c o fits.0 fits.1
thing_again w (shard c o page es) fits = shard_again c o page fits.coll_name fits.object_name fits.page_below
thing_again w (attribute c o name value) fits = attribute_again c o name fits.coll_name fits.object_name
thing_again w (omap_header c o value) fits = header_again c o fits.coll_name fits.object_name
thing_again w (omap_pair c o key value) fits = pair_again c o key fits.coll_name fits.object_name
thing_again w (blob sbid first slots) fits = shared_again sbid fits.number
thing_again w (bitmap r bits) fits = bitmap_again r (omega (arith, fits.below))

-- and with the value it says the row
pub row_again : (w : Width) (a : Row) → FitsRow w a → row_of w (row_thing a) (row_value w a) ≡ Some a
row_again w (collection c) fits = refl
row_again w (onode c o size) fits = ap (λ n. Some (onode c o n)) (from_le_bytes-to_le_bytes_8 size fits.2)
row_again w (shard c o page es) fits = ap (λ fs. Some (shard c o page fs)) (read_all w es fits.fit)
row_again w (attribute c o name value) fits = refl
row_again w (omap_header c o value) fits = refl
row_again w (omap_pair c o key value) fits = refl
row_again w (blob sbid first slots) fits =
    λ i. Some (blob sbid (from_le_bytes-to_le_bytes_4 first fits.unit i) (slots_again w first slots fits.few fits.fit i))
row_again w (bitmap r bits) fits = refl

pub of_some : {X : Type 0} (a b : X) → Some a ≡ Some b → a ≡ b
of_some a b e = ap (λ o. unwrap_or o a) e

-- a row under a key is of what the key names
pub names_thing : (w : Width) (a : Row) (key : List ℕ) (t : Thing) → FitsRow w a → key ≡ row_key a → thing_of key ≡ Some t → row_thing a ≡ t
names_thing w a key t fits is named = of_some (row_thing a) t (sym (thing_again w a fits) ∙ ap thing_of (sym is) ∙ named)

-- and, where the value is its own, it is the row that the value says of that
pub reads_row : (w : Width) (a b : Row) (key value : List ℕ) (t : Thing) → FitsRow w a → key ≡ row_key a → value ≡ row_value w a
    → thing_of key ≡ Some t → row_of w t value ≡ Some b → a ≡ b
reads_row w a b key value t fits key_is value_is named says =
    of_some a b (sym (row_again w a fits) ∙ (λ i. row_of w (names_thing w a key t fits key_is named i) (sym value_is i)) ∙ says)

pub same_thing : (w : Width) (a b : Row) → FitsRow w a → FitsRow w b → row_key a ≡ row_key b → IsOfSameThing a b
same_thing w a b fa fb e = of_some (row_thing a) (row_thing b) (sym (thing_again w a fa) ∙ ap thing_of e ∙ thing_again w b fb)

pub same_row : (w : Width) (a b : Row) → FitsRow w a → FitsRow w b → row_key a ≡ row_key b → row_value w a ≡ row_value w b → a ≡ b
same_row w a b fa fb key value =
    of_some a b (sym (row_again w a fa) ∙ (λ i. row_of w (same_thing w a b fa fb key i) (value i)) ∙ row_again w b fb)

-- The rows of an object's attributes and of its omap: they are good where their values fit and the object is there, and a missing object has none.
use Rattle.std.proofs.Common.{◌≡◌, ◌↔◌, ℕ, List, Option, Some, None, is_some, refl, sym, ap, subst, ◌∙◌}
use Rattle.std.specs.FinMap as map
use Rattle.unit_fields.specs.Prelude.{IsName, IsCollName}
use Rattle.meta_rows.specs.Prelude.{Rows}
use Rattle.meta_log.specs.declared.slot.Super.{Super}
use Rattle.meta_log.specs.Prelude.{width_of}
use Rattle.row_format.specs.Prelude.{onode_key, attr_key, header_key, omap_key, Row, attribute, omap_header, omap_pair, FitsRow, FitsNamed, FitsHeader, an_attribute, an_omap_header, an_omap_pair, thing_of, row_of}
use Rattle.row_format.specs.Things.{Thing}
use Rattle.row_format.proofs.Prelude.{attribute_again, header_again, pair_again, reads_row}
use Rattle.store_image.specs.Prelude.{HasObject, IsInPlace, IsGoodRow, NoBadRow}

-- a good row is the one that its value says of what its key names
says : (s : Super) (rows : Rows) (key value : List ℕ) (t : Thing) (r : Row) → thing_of key ≡ Some t → row_of (width_of s) t value ≡ Some r
    → IsGoodRow s rows key value → FitsRow (width_of s) r × IsInPlace s rows r
says s rows key value t r named is good =
    subst (λ (x : Row). FitsRow (width_of s) x × IsInPlace s rows x)
    (reads_row (width_of s) good.row r key value t good.fits good.key_is good.value_is named is) (good.fits, good.in_place)

module _ (s : Super) (rows : Rows) (c o : List ℕ) (coll : IsCollName c) (object : IsName o) where
  pub attribute_is : (name value : List ℕ) → IsGoodRow s rows (attr_key c o name) value ↔ (FitsNamed c o name value × HasObject rows c o)
  attribute_is name value = (
    says s rows (attr_key c o name) value (an_attribute c o name) (attribute c o name value) (attribute_again c o name coll object) refl,
    λ has. record { row = attribute c o name value; fits = has.0; key_is = refl; value_is = refl; in_place = has.1 },
  )

  pub header_is : (value : List ℕ) → IsGoodRow s rows (header_key c o) value ↔ (FitsHeader c o value × HasObject rows c o)
  header_is value = (
    says s rows (header_key c o) value (an_omap_header c o) (omap_header c o value) (header_again c o coll object) refl,
    λ has. record { row = omap_header c o value; fits = has.0; key_is = refl; value_is = refl; in_place = has.1 },
  )

  pub pair_is : (key value : List ℕ) → IsGoodRow s rows (omap_key c o key) value ↔ (FitsNamed c o key value × HasObject rows c o)
  pair_is key value = (
    says s rows (omap_key c o key) value (an_omap_pair c o key) (omap_pair c o key value) (pair_again c o key coll object) refl,
    λ has. record { row = omap_pair c o key value; fits = has.0; key_is = refl; value_is = refl; in_place = has.1 },
  )

-- ---- a missing object

none_if : {X : Type 0} (x : Option X) → ((v : X) → x ≡ Some v → ⊥) → x ≡ None
none_if None never = refl
none_if (Some v) never = absurd (never v refl)

module _ (s : Super) (rows : Rows) (c o : List ℕ) (good : NoBadRow s rows) (coll : IsCollName c) (object : IsName o)
    (missing : map.get rows (onode_key c o) ≡ None) where
  not_there : HasObject rows c o → ⊥
  not_there has = let e = sym has.1 ∙ ap is_some missing in cc

  pub no_attribute : (name : List ℕ) → map.get rows (attr_key c o name) ≡ None
  no_attribute name = none_if (map.get rows (attr_key c o name)) (λ value is.
      not_there ((attribute_is s rows c o coll object name value).0 (good (attr_key c o name) value is)).1)

  pub no_header : map.get rows (header_key c o) ≡ None
  no_header = none_if (map.get rows (header_key c o)) (λ value is.
      not_there ((header_is s rows c o coll object value).0 (good (header_key c o) value is)).1)

  pub no_pair : (key : List ℕ) → map.get rows (omap_key c o key) ≡ None
  no_pair key = none_if (map.get rows (omap_key c o key)) (λ value is.
      not_there ((pair_is s rows c o coll object key value).0 (good (omap_key c o key) value is)).1)

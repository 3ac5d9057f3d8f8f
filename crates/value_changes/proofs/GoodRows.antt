-- Where no row is bad, those of an object's attributes and of its omap have names.
use Rattle.std.proofs.Common.{◌≡◌, ◌⊎◌, inl, inr, ℕ, true, List, [], ◌∷◌, ◌++◌, Option, Some, None, is_some, refl, sym, ap, subst, ◌∙◌}
use Rattle.std.specs.FinMap as finite
use Rattle.unit_fields.specs.Prelude.{IsName, IsCollName}
use Rattle.unit_fields.specs.declared.width.Width.{Width}
use Rattle.meta_rows.specs.Prelude.{Rows}
use Rattle.meta_log.specs.declared.slot.Super.{Super}
use Rattle.meta_log.specs.Prelude.{width_of}
use Rattle.row_format.specs.Prelude.{object_key, Row, attribute, omap_header, omap_pair, row_key, FitsRow}
use Rattle.row_format.proofs.Prelude.{same_head, same_place, under_attribute, begins_m}
use Rattle.store_image.specs.Prelude.{NoBadRow}
use Rattle.plan_rows.specs.Prelude.{IsKeyOfValue}
use Rattle.plan_rows.specs.Values as value
use Rattle.store_image.specs.Prelude.{HasKey}

-- the kinds of rows that have an object's values
abbrev pub IsValueKind : ℕ → Type 0
IsValueKind kind = (kind ≡ 0x41) ⊎ (kind ≡ 0x4d)

-- rows of these kinds are of values with names
abbrev pub AreNamed : Rows → List ℕ → List ℕ → Type 0
AreNamed rows c o = (kind : ℕ) (rest : List ℕ) → IsValueKind kind → HasKey rows (object_key kind c o rest) → IsKeyOfValue c o (object_key kind c o rest)

module _ (c o : List ℕ) (coll : IsCollName c) (object : IsName o) (kind : ℕ) (rest : List ℕ) where
  -- a row with such a key is of the object
  same_behind : (own : ℕ) (d u name : List ℕ) → IsCollName d → IsName u → object_key kind c o rest ≡ object_key own d u name → rest ≡ name
  same_behind own d u name d_name u_name e =
      let k : kind ≡ own = same_head _ _ _ _ e in
      (same_place kind c o d u rest name coll object d_name u_name (e ∙ (λ i. object_key (sym k i) d u name))).2

  of_row : (w : Width) (row : Row) → FitsRow w row → IsValueKind kind → object_key kind c o rest ≡ row_key row → IsKeyOfValue c o (object_key kind c o rest)
  of_row w row fits is e = elim is [
    | inl k ↦
        let at = under_attribute w c o rest row coll object fits ((λ i. object_key (sym k i) c o rest) ∙ e) in
        let own : FitsRow w (attribute c o rest at.0) = subst (FitsRow w) at.1 fits in
        record { of = value.attribute rest; named = own.named; is = λ i. object_key (k i) c o rest }
    | inr k ↦ elim (begins_m w (c ++ 0 ∷ (o ++ 0 ∷ rest)) row fits ((λ i. object_key (sym k i) c o rest) ∙ e)) [
      | inl at ↦
          let own : FitsRow w (omap_header at.0 at.1 at.2) = subst (FitsRow w) at.3 fits in
          let behind = same_behind 0x4d at.0 at.1 (0x2d ∷ []) own.coll_name own.object_name (e ∙ ap row_key at.3) in
          record { of = value.header; named = tt; is = λ i. object_key (k i) c o (behind i) }
      | inr at ↦
          let own : FitsRow w (omap_pair at.0 at.1 at.2 at.3) = subst (FitsRow w) at.4 fits in
          let behind = same_behind 0x4d at.0 at.1 (0x2e ∷ at.2) own.coll_name own.object_name (e ∙ ap row_key at.4) in
          record { of = value.pair at.2; named = own.named; is = λ i. object_key (k i) c o (behind i) }
    ]
  ]

pub are_named : (s : Super) (rows : Rows) (c o : List ℕ) → NoBadRow s rows → IsCollName c → IsName o → AreNamed rows c o
are_named s rows c o good coll object kind rest is has = by (finite.get rows (object_key kind c o rest)) refl has
  where
    by : (held : Option (List ℕ)) → finite.get rows (object_key kind c o rest) ≡ held → is_some held ≡ true → IsKeyOfValue c o (object_key kind c o rest)
    by None at there = absurd cc
    by (Some v) at there =
        let row = good (object_key kind c o rest) v at in
        of_row c o coll object kind rest (width_of s) row.row row.fits is row.key_is

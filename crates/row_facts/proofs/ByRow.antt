-- An object is there where the row of its onode is.
use Rattle.std.proofs.Common.{◌≡◌, ℕ, List, false, Option, Some, None, is_some, refl, sym, ap, ◌∙◌, ◌↔◌}
use Rattle.std.specs.Prelude.{IsSome}
use Rattle.std.specs.FinMap as map
use Rattle.meta_rows.specs.Prelude.{Rows}
use Rattle.object_model.specs.Prelude.{Object, Objects, object_under}
use Rattle.unit_fields.specs.Prelude.{IsName, IsCollName}
use Rattle.row_format.specs.Prelude.{onode_key}
use Rattle.store_image.specs.Prelude.{HasKey, IsShape}

module _ (rows : Rows) (objects : Objects) (c o : List ℕ) (shape : IsShape rows objects) (coll : IsCollName c) (name : IsName o) where
  there_cases : (x : Option Object) → object_under objects c o ≡ x
      → (x ≡ None → map.get rows (onode_key c o) ≡ None) × (is_some x ≡ is_some (map.get rows (onode_key c o)))
  there_cases None e = (λ n. shape.missing c o coll name e, ap is_some (sym (shape.missing c o coll name e)))
  there_cases (Some object) e = (λ n. absurd cc, ap is_some (sym (shape.present c o object e).size.stands))

  none_of : {X : Type 0} (x : Option X) → is_some x ≡ false → x ≡ None
  none_of None e = refl
  none_of (Some x) e = absurd cc

  pub object_absent : (object_under objects c o ≡ None) ↔ (map.get rows (onode_key c o) ≡ None)
  object_absent = (
    (there_cases (object_under objects c o) refl).0,
    λ none. none_of (object_under objects c o) ((there_cases (object_under objects c o) refl).1 ∙ ap is_some none),
  )

  pub object_present : IsSome (object_under objects c o) ↔ HasKey rows (onode_key c o)
  object_present = (
    λ some. sym (there_cases (object_under objects c o) refl).1 ∙ some,
    λ has. (there_cases (object_under objects c o) refl).1 ∙ has,
  )

-- what the laws cite
pub ruleset object_laws = (object_absent, object_present)

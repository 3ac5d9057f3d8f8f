-- Which replies the rows decide.
use Rattle.std.proofs.Common.{◌≡◌, ℕ, true, false, List, [], ◌∷◌, Option, Some, None, Ok, Err, is_some, refl, sym, ap, ◌∙◌}
use Rattle.std.specs.FinMap as map
use Rattle.meta_rows.specs.Prelude.{Rows}
use Rattle.object_model.specs.declared.op.Op.TheVariants.{MkColl}
use Rattle.object_model.specs.declared.op.Refusal.TheVariants.{CollectionExists}
use Rattle.object_model.specs.Prelude.{Collection, Objects, effects, transaction_effect, submitted_effect}
use Rattle.row_format.specs.Prelude.{coll_key}
use Rattle.store_image.specs.Prelude.{HasKey, IsShape}
use Rattle.row_facts.specs.Operations.{coll_change}
use Rattle.row_facts.proofs.CollMade.{coll_effect}
use Rattle.row_facts.proofs.ObjectUnder.{after_outcome}

-- ---- the size of the transaction

pub coll_submitted : (objects : Objects) (c : List ℕ) → submitted_effect (coll_change c) objects ≡ transaction_effect (coll_change c) objects
coll_submitted objects c = refl

-- ---- collections by their rows

none_of : {X : Type 0} (x : Option X) → is_some x ≡ false → x ≡ None
none_of None e = refl
none_of (Some x) e = absurd cc

some_of : {X : Type 0} (x : Option X) → is_some x ≡ true → (v : X) × (x ≡ Some v)
some_of None e = absurd cc
some_of (Some v) e = (v, refl)

module _ (rows : Rows) (objects : Objects) (shape : IsShape rows objects) (c : List ℕ) where
  pub coll_absent : map.get rows (coll_key c) ≡ None → map.get objects c ≡ None
  coll_absent none = none_of _ (shape.collections c ∙ ap is_some none)

  pub row_absent : map.get objects c ≡ None → map.get rows (coll_key c) ≡ None
  row_absent none = none_of _ (sym (shape.collections c) ∙ ap is_some none)

  pub coll_found : HasKey rows (coll_key c) → (coll : Collection) × (map.get objects c ≡ Some coll)
  coll_found has = some_of _ (shape.collections c ∙ has)

  pub coll_made : map.get rows (coll_key c) ≡ None → transaction_effect (coll_change c) objects ≡ Ok (map.insert objects c map.empty)
  coll_made none = coll_effect objects c (coll_absent none)

  pub coll_exists : HasKey rows (coll_key c) → transaction_effect (coll_change c) objects ≡ Err CollectionExists
  coll_exists has = ap (λ x. after_outcome objects c (effects (MkColl ∷ []) x)) (coll_found has).1

-- what the laws cite
pub ruleset reply_laws = (coll_submitted, coll_absent, row_absent, coll_made, coll_exists)

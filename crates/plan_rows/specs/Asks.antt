-- The old bytes that planning asks for.
use Rattle.std.specs.Prelude.{◌≡◌, List, length, map}
use Rattle.std.specs.List.{AllByRecursion}
use Rattle.object_model.specs.declared.op.Op.{Op}
use Rattle.object_model.specs.declared.op.Op.TheVariants.{MkColl, RmColl}
use Rattle.store_image.specs.Prelude.{PageUnit}
use Rattle.plan_rows.specs.declared.plan.ReadUnit.{ReadUnit}

-- it makes a collection, or takes one away
abbrev pub IsOnColl : Op → Type 0
IsOnColl MkColl = Unit {0}
IsOnColl RmColl = Unit {0}
IsOnColl op = ⊥

-- these were read at the places: their units, in order, each with 4096 bytes
pub record AreReadAt (places : List PageUnit) (read : List ReadUnit) : Type 0 where
  pub units : map (λ r. r.unit) read ≡ map (λ on. on.unit) places
  pub whole : AllByRecursion (λ r. length r.bytes ≡ 4096) read

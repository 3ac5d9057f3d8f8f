-- Collections and objects that plain objects of the rows' shape don't have, or have.
use Rattle.std.specs.Prelude.{◌≡◌, List, ℕ, Err}
use Rattle.object_model.specs.declared.op.Refusal.{Refusal}
use Rattle.object_model.specs.Prelude.{Objects, found_collection, found_object}
use Rattle.meta_rows.specs.Prelude.{Rows}
use Rattle.store_image.specs.Prelude.{IsShape}

-- what looks for the collection is refused with this
abbrev pub IsCollMissing : Rows → List ℕ → Refusal → Type 0
IsCollMissing rows c refusal = (objects : Objects) → IsShape rows objects → found_collection objects c ≡ Err refusal

-- and what looks for the object
abbrev pub IsObjectMissing : Rows → List ℕ → List ℕ → Refusal → Type 0
IsObjectMissing rows c o refusal = (objects : Objects) → IsShape rows objects → found_object objects c o ≡ Err refusal

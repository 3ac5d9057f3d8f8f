-- What intents change of the owned units.
use Rattle.std.specs.Prelude.{◌⊎◌, ℕ, List, Contains}
use Rattle.unit_fields.specs.declared.width.Width.{Width}
use Rattle.meta_rows.specs.Prelude.{Rows}
use Rattle.store_image.specs.Prelude.{IsOwned}
use Rattle.plan_rows.specs.Prelude.{StandsOnce}
use Rattle.store_steps.specs.Prelude.{Intent, taken_by, released_by}

-- What is owned after was owned before or was taken, and what was owned before or taken is owned after or was released. What is released was
-- owned before or taken, isn't owned after, and is released once.
pub record OwnTheirUnits (w : Width) (before after : Rows) (xs : List Intent) : Type 0 where
  pub new : (unit : ℕ) → IsOwned w after unit → IsOwned w before unit ⊎ Contains (taken_by xs) unit
  pub left : (unit : ℕ) → IsOwned w before unit → IsOwned w after unit ⊎ Contains (released_by xs) unit
  pub taken : (unit : ℕ) → Contains (taken_by xs) unit → IsOwned w after unit ⊎ Contains (released_by xs) unit
  pub was : (unit : ℕ) → Contains (released_by xs) unit → IsOwned w before unit ⊎ Contains (taken_by xs) unit
  pub gone : (unit : ℕ) → Contains (released_by xs) unit → ¬ IsOwned w after unit
  pub once : (unit : ℕ) → StandsOnce (released_by xs) unit

-- How many hold the data units.
use Rattle.std.proofs.Common.{◌≡◌, ℕ, ◌==◌, ◌&&◌, Bool, true, false, List, [], ◌∷◌, refl, ap, ◌∙◌}
use Rattle.run_facts.proofs.Common.{Rows, Super, IsDataUnit, Space, is_free, taken_one, given_one, taken, given}
use Rattle.unit_allocator.specs.Prelude.{is_idle, holds_of}
use Rattle.store_steps.specs.Prelude.{holds_in, HoldsAreCounted}

-- No row is a deferred one yet, so that nothing is held by the rows. This is the place that changes once there are such rows: nothing else unfolds
-- holds_in, and where a unit is said to be free it is by this.
pub nothing_is_held : (rows : Rows) (unit : ℕ) → holds_in rows unit ≡ 0
unfolding holds_in
nothing_is_held rows unit = refl

-- so a data unit is free where it is idle
pub idle_is_free : (sup : Super) (rows : Rows) (space : Space) (unit : ℕ) → HoldsAreCounted sup rows space → IsDataUnit sup unit
    → is_free space unit ≡ is_idle space unit
idle_is_free sup rows space unit held on =
    ap (λ n. is_idle space unit && (n == 0)) (held unit on ∙ nothing_is_held rows unit) ∙ always (is_idle space unit)
  where
    always : (b : Bool) → (b && true) ≡ b
    always true = refl
    always false = refl

-- units that are taken or given back stay held as often as they were
pub holds_taken : (us : List ℕ) (space : Space) (unit : ℕ) → holds_of (taken space us) unit ≡ holds_of space unit
holds_taken [] space unit = refl
holds_taken (u ∷ us) space unit = holds_taken us (taken_one space u) unit

pub holds_given : (us : List ℕ) (space : Space) (unit : ℕ) → holds_of (given space us) unit ≡ holds_of space unit
holds_given [] space unit = refl
holds_given (u ∷ us) space unit = holds_given us (given_one space u) unit

-- Fair selections of intents, and what rows and units stand for when just these are committed.
use Rattle.std.specs.Prelude.{ℕ, List, take, filter_map}
use Rattle.unit_fields.specs.declared.width.Width.{Width}
use Rattle.object_model.specs.declared.book.Entry.{Entry}
use Rattle.object_model.specs.Prelude.{Objects, Change, replay, change_at, committed}
use Rattle.meta_rows.specs.Prelude.{Rows}
use Rattle.store_image.specs.Prelude.{ObjectsStand}
use Rattle.store_steps.specs.Prelude.{State, applied_count, Intent, is_in, rows_by}
use Rattle.selections.specs.Fair.{IsFair}

-- of each collection the first ones are selected, in order
abbrev pub IsFairSelection : List Intent → List Intent → Type 0
IsFairSelection all some = IsFair is_in all some

-- the transactions of intents
abbrev pub changes_of : List Entry → List Intent → List Change
changes_of entries xs = filter_map (λ x. change_at entries x.place) xs

-- the transactions whose commits are applied to the committed rows
abbrev pub applied_changes : State → List Change
applied_changes s = committed s.book.entries (take (applied_count s) s.book.commits)

-- With the operations of a fair selection the rows stand, over these bytes of units, for the objects after its transactions.
abbrev pub SelectionsStand : Width → (ℕ → List ℕ) → Rows → List Intent → Objects → List Entry → Type 0
SelectionsStand w at rows xs objects entries = (some : List Intent) → IsFairSelection xs some
    → ObjectsStand w at (rows_by rows some) (replay objects (changes_of entries some))

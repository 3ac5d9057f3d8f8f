-- The fair selections of intents: what stands for all of them, and where none is under way.
use Rattle.std.proofs.Common.{ℕ, List, []}
use Rattle.run_facts.proofs.Common.{Entry, Objects, replay, Rows}
use Rattle.unit_fields.specs.declared.width.Width.{Width}
use Rattle.object_model.proofs.Names.{is_same_itself}
use Rattle.store_image.specs.Prelude.{ObjectsStand}
use Rattle.store_steps.specs.Prelude.{Intent, is_in, rows_by}
use Rattle.selections.specs.Fair.{EachHasName}
use Rattle.selections.proofs.Selecting.{fair_all, each_of_none}
use Rattle.book_facts.specs.Prelude.{changes_of, SelectionsStand}

-- each intent changes a collection
pub has_coll : EachHasName is_in
has_coll x = (x.coll, is_same_itself x.coll)

-- with the operations of these intents the rows stand for the objects after their transactions
abbrev StandsWith : Width → (ℕ → List ℕ) → Rows → Objects → List Entry → List Intent → Type 0
StandsWith w at rows objects entries some = ObjectsStand w at (rows_by rows some) (replay objects (changes_of entries some))

pub all_selected : (w : Width) (at : ℕ → List ℕ) (rows : Rows) (xs : List Intent) (objects : Objects) (entries : List Entry)
    → SelectionsStand w at rows xs objects entries → ObjectsStand w at (rows_by rows xs) (replay objects (changes_of entries xs))
all_selected w at rows xs objects entries stand = stand xs (fair_all is_in xs)

pub stand_none : (w : Width) (at : ℕ → List ℕ) (rows : Rows) (objects : Objects) (entries : List Entry) → ObjectsStand w at rows objects
    → SelectionsStand w at rows [] objects entries
stand_none w at rows objects entries = each_of_none is_in has_coll (StandsWith w at rows objects entries)

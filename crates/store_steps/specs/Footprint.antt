-- What a call changes, part by part.
use Rattle.std.specs.Prelude.{◌≡◌, ℕ, ◌+◌, true}
use Rattle.block_device.specs.Prelude.{Disk}
use Rattle.object_model.specs.Prelude.{Change}
use Rattle.object_model.specs.declared.command.Answer.{Answer}
use Rattle.object_model.specs.declared.command.Read.{Read}
use Rattle.switch_facts.specs.Prelude.{OtherGoes}
use Rattle.store_steps.specs.declared.step.Step.{Step}
use Rattle.store_steps.specs.declared.step.Step.TheVariants.{Take, Commit, Finish, Switch}
use Rattle.store_steps.specs.State.{State}
use Rattle.store_steps.specs.Ready.{is_ready}
use Rattle.store_steps.specs.Steps.{DoesTake, DoesCommit, DoesFinish, DoesSwitch}
use Rattle.plan_drafts.specs.Prelude.{IsKnown}
use Rattle.store_steps.specs.Submit.{Accepts, Refuses}
use Rattle.store_steps.specs.Runs.{AnswersRead}
use Rattle.store_steps.specs.Parts.{RowsPart, BookPart, rows_part, data_part, half_part, other_part, book_part}
use Rattle.store_steps.specs.Touch.{Touch, Adds, IsPlaced, event_of, ticket_of, events_of}
use Rattle.store_steps.specs.RowsGo.{RowsGo}
use Rattle.store_steps.specs.RowsGo as rows
use Rattle.store_steps.specs.DataGoes.{DataGoes}
use Rattle.store_steps.specs.HalfGoes.{HalfGoes}
use Rattle.store_steps.specs.BookGoes.{BookGoes}
use Rattle.store_steps.specs.BookGoes as book

-- the call accepts a transaction
pub record AcceptsOne (s : State) (d : Disk) (s' : State) : Type 0 where
  pub client : ℕ
  pub line : ℕ
  pub change : Change
  pub known : IsKnown change.ops
  pub accepts : Accepts client line change s d s'

-- it answers without one: it refuses a transaction, or answers a read
pub data Replies (s : State) (d : Disk) (s' : State) : Type 0 where
  refuses : (client line : ℕ) (change : Change) (a : Answer) → Refuses client line change a s d s' → Replies s d s'
  reads : (client line : ℕ) (read : Read) (a : Answer) → AnswersRead client line read a s d s' → Replies s d s'

-- it is this step, which is ready
pub record Makes (one : Step) (What : Type 0) (s : State) (d : Disk) : Type 0 where
  pub ready : is_ready one d.depth s ≡ true
  pub does : What

-- By what call rows and book change. One more joins the rows where a transaction is accepted, with its entry; they change places where a batch is
-- opened, with its commits; the first ones are committed with the open batch, and commits are applied with them alone; the halves change places. All
-- other entries are of answers without a transaction.
abbrev pub IsCaused : (s : State) (d : Disk) (s' : State) (d' : Disk) {p q : RowsPart} {events : ℕ} {t : Touch} {b c : BookPart}
    → RowsGo p q → BookGoes events t b c → Type 0
IsCaused s d s' d' (rows.joins x more joined) (book.enters e entered) = AcceptsOne s d s'
IsCaused s d s' d' (rows.joins x more joined) other = ⊥
IsCaused s d s' d' (rows.reorders later complete reordered) (book.commits xs none opened) = Makes Take (DoesTake s d s' d') s d
IsCaused s d s' d' (rows.reorders later complete reordered) other = ⊥
IsCaused s d s' d' (rows.applies number front back both fits applied) (book.applies count all counted) = Makes Commit (DoesCommit s d s' d') s d
IsCaused s d s' d' (rows.applies number front back both fits applied) other = ⊥
IsCaused s d s' d' (rows.switches number limits switched) (book.same kept) = Makes Switch (DoesSwitch s d s' d') s d
IsCaused s d s' d' (rows.switches number limits switched) other = ⊥
IsCaused s d s' d' (rows.same same) (book.enters e entered) = Replies s d s'
IsCaused s d s' d' (rows.same same) (book.acknowledges acknowledged) = Makes Finish (DoesFinish s d s' d') s d
IsCaused s d s' d' (rows.same same) (book.same kept) = Unit {0}
IsCaused s d s' d' (rows.same same) other = ⊥

-- what it adds to the device's log, and what it makes of each part
pub record Footprint (s : State) (d : Disk) (s' : State) (d' : Disk) : Type 0 where
  pub touch : Touch
  pub device : Adds touch d d'
  pub placed : IsPlaced s.log.sup touch
  pub counted : s'.events ≡ s.events + events_of touch
  pub rows : RowsGo (rows_part s) (rows_part s')
  pub units : DataGoes d.flights touch (data_part s) (data_part s')
  pub half : HalfGoes d.flights touch (half_part s) (half_part s')
  pub other : OtherGoes d.flights (ticket_of touch) (event_of touch) (other_part s) (other_part s')
  pub book : BookGoes s.events touch (book_part s) (book_part s')
  pub caused : IsCaused s d s' d' rows book

-- What is known of a store from call to call: its device, its book, and that each crash so far leaves a front of the commits.
use Rattle.std.specs.Prelude.{◌≡◌, ℕ, ◌+◌, List, [], length, take, Some, None}
use Rattle.std.specs.List.{AllByRecursion}
use Rattle.unit_fields.specs.declared.width.Width.{Width}
use Rattle.block_device.specs.Prelude.{last, IsClean, Disk, History, last_at}
use Rattle.object_model.specs.Prelude.{Objects, replay, AnswersFrom}
use Rattle.meta_rows.specs.declared.row_op.RowOp.{RowOp}
use Rattle.meta_rows.specs.Prelude.{Rows}
use Rattle.meta_log.specs.Prelude.{width_of, in_runs}
use Rattle.store_image.specs.Prelude.{IsExactBut, IsLeakedIn, ObjectsStand, IsStart, EachCutStands}
use Rattle.log_facts.specs.Prelude.{not_sent, SlotsStand, ActiveHalfStands, OtherHalfRests}
use Rattle.store_steps.specs.Prelude.{State, Found, Intent, intents, rows_by, uncommitted}
use Rattle.book_facts.specs.Prelude.{KnownOfBook, IsFairSelection, applied_changes, SelectionsStand}
use Rattle.read_facts.specs.Prelude.{IsNoCsum}
use Rattle.crash_facts.specs.HeldBytes.{held_or_last}
use Rattle.unit_facts.specs.Known.{IsAnsweredSince, KnownOfUnits}

-- The committed rows stand for the objects after the applied commits, and with the operations of a fair selection of the intents under
-- way for the objects after these too: over the bytes that the fresh units are to have, and for all others those last written.
abbrev pub ContextsStand : Objects → State → History → Type 0
ContextsStand opening s h =
    SelectionsStand (width_of s.log.sup) (held_or_last h (intents (uncommitted s))) s.log.rows (intents (uncommitted s))
    (replay opening (applied_changes s)) s.book.entries

-- The contents when the log had so many events.
abbrev pub contents_at : ℕ → History → List ℕ
contents_at base h = last h.start (take base h.log)

-- With the operations of a fair selection of intents the bitmap of the rows is exact, but for these leaked units.
abbrev pub SelectionsAreExact : Width → (ℕ → Type 0) → Rows → List Intent → Type 0
SelectionsAreExact w leaked rows xs = (some : List Intent) → IsFairSelection xs some → IsExactBut w leaked (rows_by rows some)

-- what is known of a store while its kernel is up, and the device tells its log
pub record KnownOfStore (base : ℕ) (opening : Objects) (s : State) (d : Disk) (h : History) : Type 0 where
  pub units : KnownOfUnits base s d h
  pub book : KnownOfBook opening s
  pub stand : ContextsStand opening s h
  pub exact : SelectionsAreExact (width_of s.log.sup) (IsLeakedIn (contents_at base h)) s.log.rows (intents (uncommitted s))

-- What holds whether it is up or down: each entry has the answer that plain objects give, none names a bad unit, and each crash since the log
-- had `base` events leaves the objects after a front of the commits.
pub record IsDurable (base : ℕ) (opening : Objects) (s : State) (d : Disk) : Type 0 where
  pub history : History
  pub told : d.history ≡ Some history
  pub counted : length history.log ≡ base + s.events
  pub book : KnownOfBook opening s
  pub answers : AnswersFrom opening s.book.entries
  pub no_csum : AllByRecursion (λ e. IsNoCsum e.answer) s.book.entries
  pub cuts : EachCutStands base history opening s.book
  pub up : s.down ≡ None → KnownOfStore base opening s d history

-- What a kernel keeps of its device: whatever objects the contents stood for when the mount began, which was so many events ago, each crash
-- since then leaves those after a front of the commits. Of a device that doesn't tell its log it says nothing.
abbrev pub KeepsDurable : State → Disk → Type 0
KeepsDurable s d = (h : History) (base : ℕ) (opening : Objects) → d.history ≡ Some h → length h.log ≡ base + s.events → IsStart base h opening
    → IsDurable base opening s d

-- What a mount leaves of a device that tells its log: nothing is in flight or dirty, the log has the records that were found and zeros behind
-- them, the other half is zero where it isn't stale, the rows and the units stand for the objects, and each crash on the way left these.
pub record IsMounted (base : ℕ) (opening : Objects) (f : Found) (events : ℕ) (h : History) : Type 0 where
  pub answered : IsAnsweredSince base h [] events
  pub clean : (unit : ℕ) → IsClean h.log unit
  pub slots : SlotsStand h f.sup
  pub rests : OtherHalfRests h f.sup (in_runs f.stale)
  pub recs : List (List RowOp)
  pub half : ActiveHalfStands h f.sup f.rows f.tail f.number None 0 not_sent recs
  pub stand : ObjectsStand (width_of f.sup) (last_at h) f.rows opening
  pub exact : IsExactBut (width_of f.sup) (IsLeakedIn (contents_at base h)) f.rows
  pub cuts : EachCutStands base h opening (record { entries = []; commits = [] })

-- What submitting a transaction does: it is accepted, or refused for a cause; either makes an entry of the book.
use Rattle.std.specs.Prelude.{◌≡◌, ℕ, ◌+◌, ◌<◌, ◌≤◌, List, [], ◌∷◌, ◌++◌, length, map, Some, None}
use Rattle.block_device.specs.Prelude.{Disk}
use Rattle.block_device.specs.declared.device.Ticket.{Ticket}
use Rattle.object_model.specs.Prelude.{Change}
use Rattle.object_model.specs.declared.command.Command.{Command}
use Rattle.object_model.specs.declared.command.Command.TheVariants as ask
use Rattle.object_model.specs.declared.command.Answer.{Answer}
use Rattle.object_model.specs.declared.command.Answer.TheVariants as answer
use Rattle.meta_rows.specs.Prelude.{rows_after}
use Rattle.meta_log.specs.Prelude.{unit_count, width_of}
use Rattle.store_image.specs.Prelude.{PageUnit}
use Rattle.read_facts.specs.Prelude.{IsHeldAt, AreGoodUnits, IsFirstBadUnit, IsRefusedBy, IsNotRefused}
use Rattle.plan_rows.specs.declared.plan.Plan.{Plan}
use Rattle.unit_allocator.specs.Prelude.{Space, free_units, taken}
use Rattle.store_steps.specs.declared.context.Context.{Context}
use Rattle.meta_store.specs.Store.{Meta, room_of}
use Rattle.store_steps.specs.State.{State}
use Rattle.store_steps.specs.UnderWay.{memory_of}
use Rattle.plan_drafts.specs.Prelude.{places_of, Plans, AsksFor}

-- the units of the log that the record of these operations alone takes: they are as many for each number
abbrev pub need_of : Meta → Plan → ℕ
need_of m plan = unit_count m.number plan.ops

abbrev pub free_count : Space → ℕ
free_count space = length (free_units space)

-- the most entries of a book
abbrev pub entry_limit : ℕ
entry_limit = 1048576

-- the context of an accepted transaction
abbrev pub context_of : ℕ → Change → Meta → Plan → Context
context_of place change m plan = record {
  place = place;
  coll = change.coll;
  ops = plan.ops;
  need = need_of m plan;
  fresh = plan.fresh;
  released = plan.released;
  given = 0;
  done = 0;
}

-- the state with one more entry of the book
abbrev pub entered : ℕ → ℕ → Command → Answer → State → State
entered client line command a s = record s {
  book = record s.book {
    entries = s.book.entries ++ record { client = client; line = line; command = command; answer = a; acks = s.acked } ∷ [];
  };
}

-- with one for a transaction
abbrev pub noted : ℕ → ℕ → Change → Answer → State → State
noted client line change a s = entered client line (ask.Change change) a s

-- the state after a transaction is accepted with this plan
abbrev pub accepted_with : ℕ → ℕ → Change → Plan → State → State
accepted_with client line change plan s = noted client line change answer.Accepted (record s {
  log = record s.log { reserved = s.log.reserved + need_of s.log plan };
  submitted = rows_after s.submitted plan.ops;
  pending = s.pending ++ context_of (length s.book.entries) change s.log plan ∷ [];
  space = taken s.space (map (λ f. f.unit) plan.fresh);
  next_sbid = s.next_sbid + plan.new_blobs;
})

-- an answer can be noted: the kernel is up, and the book has room
pub record CanNote (s : State) : Type 0 where
  pub up : s.down ≡ None
  pub room : length s.book.entries < entry_limit

-- the old bytes that a plan was made over were read of these places: in memory, unchecked, else from the device, with the checksum that is kept
abbrev pub IsReadNow : State → Disk → List PageUnit → Plan → Type 0
IsReadNow s d places plan = AreGoodUnits (memory_of s) (IsHeldAt d) places (map (λ r. r.bytes) plan.read)

-- it is accepted: plain objects don't refuse it, units and room suffice, and no place whose old bytes its operations ask for is bad
pub record Accepts (client line : ℕ) (change : Change) (s : State) (d : Disk) (s' : State) : Type 0 where
  pub can_note : CanNote s
  pub not_refused : IsNotRefused s.submitted (ask.Change change)
  pub plan : Plan
  pub plans : Plans (width_of s.log.sup) change s.submitted s.space s.next_sbid plan
  pub read : IsReadNow s d (places_of change.ops plans.start) plan
  pub fits : need_of s.log plan ≤ room_of s.log
  pub after : s' ≡ accepted_with client line change plan s

-- units suffice for it, and of the units whose old bytes planning it asks for this is the first bad one
pub record MeetsBadUnit (change : Change) (s : State) (d : Disk) (unit kept found : ℕ) : Type 0 where
  pub not_refused : IsNotRefused s.submitted (ask.Change change)
  pub need : ℕ
  pub places : List PageUnit
  pub asks : AsksFor (width_of s.log.sup) change s.submitted need places
  pub enough : need ≤ free_count s.space
  pub first_bad : IsFirstBadUnit (memory_of s) (IsHeldAt d) places unit kept found

-- units suffice for it, no place whose old bytes it asks for is bad, and the record of its plan takes so many units of the log
pub record NeedsRoom (change : Change) (s : State) (d : Disk) (need : ℕ) : Type 0 where
  pub plan : Plan
  pub plans : Plans (width_of s.log.sup) change s.submitted s.space s.next_sbid plan
  pub read : IsReadNow s d (places_of change.ops plans.start) plan
  pub need_is : need ≡ need_of s.log plan

-- It is refused with this answer, for its cause; nothing but the book changes. Of old bytes only their checksum is a cause, which is looked at
-- behind the free units and before the room in the log.
abbrev pub IsCause : Answer → Change → State → Disk → Type 0
IsCause (answer.Refused refusal) change s d = IsRefusedBy s.submitted (ask.Change change) refusal
IsCause (answer.NoSpace need free) change s d =
    IsNotRefused s.submitted (ask.Change change)
    × ((places : List PageUnit) × AsksFor (width_of s.log.sup) change s.submitted need places) × (free ≡ free_count s.space) × (free < need)
IsCause (answer.Csum unit kept found) change s d = MeetsBadUnit change s d unit kept found
IsCause (answer.MetaFull need room) change s d =
    IsNotRefused s.submitted (ask.Change change) × NeedsRoom change s d need × (room ≡ room_of s.log) × (room < need)
IsCause a change s d = ⊥

pub record Refuses (client line : ℕ) (change : Change) (a : Answer) (s : State) (d : Disk) (s' : State) : Type 0 where
  pub can_note : CanNote s
  pub cause : IsCause a change s d
  pub after : s' ≡ noted client line change a s

-- It is turned away, and leaves no entry: the kernel is down, by this ticket, or it isn't and its book is full.
abbrev pub IsDownBy : Ticket → State → Type 0
IsDownBy ticket s = s.down ≡ Some ticket

pub record IsBookFull (s : State) : Type 0 where
  pub up : s.down ≡ None
  pub full : length s.book.entries ≡ entry_limit

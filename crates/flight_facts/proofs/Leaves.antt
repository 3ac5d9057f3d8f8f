-- What a step does at the device, and what it makes of the book and of whether the kernel is down, whatever is known of the state that it meets.
use Rattle.std.proofs.Common.{◌≡◌, inl, inr, true, false, Option, Some, None, is_some, refl, ap, ◌∙◌}
use Rattle.flight_facts.proofs.Common.{Disk, Ticket, Step}
use Rattle.object_model.specs.declared.book.Book.{Book}
use Rattle.store_steps.specs.declared.step.Step.TheVariants.{Data, Reap, Take, Flush, Record, Sync, Finish, CheckWrite, CheckFlush, SlotWrite, SlotFlush}
use Rattle.store_steps.specs.Prelude.{State, most_grouped, choice, down_by, Takes, Does, DoesOrFails}
use Rattle.flight_facts.specs.Prelude.{DeviceGoes, rests, submits, takes_end, gives_none, BookStep, book_same, book_commits, book_acks}
use Rattle.flight_facts.proofs.Ends.{good_end}

-- a step that ends well is one that ends well or badly
pub does_well : (step : Step) (s : State) (d : Disk) (s' : State) (d' : Disk) → Does step s d s' d' → DoesOrFails step s d s' d'
does_well Reap s d s' d' does = inl does
does_well step s d s' d' does = does

-- ---- the device

pub device_goes : (step : Step) (s : State) (d : Disk) (s' : State) (d' : Disk) → DoesOrFails step s d s' d' → DeviceGoes d d'
device_goes Data s d s' d' does = submits does.ticket.place _ does.submitted
device_goes Flush s d s' d' does = submits does.ticket.place _ does.submitted
device_goes Record s d s' d' does = submits does.ticket.place _ does.submitted
device_goes Sync s d s' d' does = submits does.ticket.place _ does.submitted
device_goes CheckWrite s d s' d' does = submits does.ticket.place _ does.submitted
device_goes CheckFlush s d s' d' does = submits does.ticket.place _ does.submitted
device_goes SlotWrite s d s' d' does = submits does.ticket.place _ does.submitted
device_goes SlotFlush s d s' d' does = submits does.ticket.place _ does.submitted
device_goes Take s d s' d' (inl batch) = rests batch.same
device_goes Take s d s' d' (inr check) = rests check.same
device_goes Reap s d s' d' (inl (inl took)) = takes_end took.ticket.place true took.ended
device_goes Reap s d s' d' (inl (inr none)) = gives_none none.0
device_goes Reap s d s' d' (inr took) = takes_end took.ticket.place false took.ended
device_goes step s d s' d' does = rests does.same

-- ---- the book

pub book_step : (step : Step) (s : State) (d : Disk) (s' : State) (d' : Disk) → DoesOrFails step s d s' d' → BookStep s s' step
book_step Reap s d s' d' (inl (inl took)) = book_same (ap (λ (z : State). z.book) took.after ∙ (good_end took.ticket s).book)
book_step Reap s d s' d' (inl (inr none)) = book_same (ap (λ (z : State). z.book) none.1)
book_step Reap s d s' d' (inr took) = book_same (ap (λ (z : State). z.book) took.after)
book_step Take s d s' d' (inl batch) = book_commits (choice most_grouped s.pending) (ap (λ (z : State). z.book) batch.after)
book_step Take s d s' d' (inr check) = book_same (ap (λ (z : State). z.book) check.after)
book_step Finish s d s' d' does = book_acks (ap (λ (z : State). z.book) does.after)
book_step step s d s' d' does = book_same (ap (λ (z : State). z.book) does.after)

-- so the entries stay
pub step_entries : (step : Step) (s s' : State) → BookStep s s' step → s'.book.entries ≡ s.book.entries
step_entries step s s' (book_same is) = ap (λ (b : Book). b.entries) is
step_entries Take s s' (book_commits xs is) = ap (λ (b : Book). b.entries) is
step_entries Finish s s' (book_acks is) = ap (λ (b : Book). b.entries) is

-- ---- whether it is down

-- one that ends well leaves it up or down
pub stays_up : (step : Step) (s : State) (d : Disk) (s' : State) (d' : Disk) → Does step s d s' d' → s'.down ≡ s.down
stays_up Reap s d s' d' (inl took) = ap (λ (z : State). z.down) took.after ∙ (good_end took.ticket s).down
stays_up Reap s d s' d' (inr none) = ap (λ (z : State). z.down) none.1
stays_up Take s d s' d' (inl batch) = ap (λ (z : State). z.down) batch.after
stays_up Take s d s' d' (inr check) = ap (λ (z : State). z.down) check.after
stays_up step s d s' d' does = ap (λ (z : State). z.down) does.after

-- a bad end leaves it down
pub down_is_some : (o : Option Ticket) (ticket : Ticket) → is_some (down_by o ticket) ≡ true
down_is_some None ticket = refl
down_is_some (Some first) ticket = refl

pub goes_down : (s : State) (d : Disk) (s' : State) (d' : Disk) → Takes s d false s' d' → is_some s'.down ≡ true
goes_down s d s' d' took = ap (λ (z : State). is_some z.down) took.after ∙ down_is_some s.down took.ticket

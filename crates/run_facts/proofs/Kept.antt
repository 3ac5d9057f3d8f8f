-- Each call of the kernel keeps what it keeps.
use Rattle.std.proofs.Common.{◌≡◌, ◌⊎◌, inl, inr, ℕ, zero, suc, ◌+◌, ◌-◌, ◌*◌, ◌^◌, ◌<◌, ◌≤◌, true, List, [], ◌∷◌, ◌++◌, length, map, length-append, Option, None, is_some, refl, sym, ap, subst, ◌∙◌, arith}
use Rattle.run_facts.proofs.Common.{option_map_or, Disk, Flight, IsSound, Waited, Change, Command, Read, Answer, Entry, piece_count, Plan, PlansKeep, IsKnown, Space, Context, Step}
use Rattle.object_model.specs.declared.command.Command.TheVariants as ask
use Rattle.object_model.specs.declared.command.Answer.TheVariants as answer
use Rattle.store_steps.specs.Prelude.{Batch, State, is_ready, rows_units, applied_count, entry_limit, need_of, context_of, accepted_with, entered, Accepts, Refuses, Found, opened, stepping, DoesOrFails, AnswersRead, Reads, Intent, intent_of, rows_part, book_part, with_accepted, Footprint}
use Rattle.store_steps.specs.RowsGo as rows
use Rattle.flight_facts.specs.Prelude.{AreOfJobs, FitsRecord, FlightsMatch, check_most, check_due, sum_work, batch_work, switch_work, work_left, entry_work, budget, measure}
use Rattle.flight_facts.proofs.Prelude.{StepOutcome, has_stepped, has_waited, has_gone_down, GoneDown, one_more_waits, one_more_entry, waited_does, Paid, sum_both, due_most}
use Rattle.run_facts.specs.Prelude.{AreRowsKept, IsAlwaysKept, IsKept, IsOpenable}
use Rattle.space_facts.proofs.Prelude.{within_opened, check_units_are}
use Rattle.meta_log.specs.Prelude.{AreRunsFrom, check_units, front_run}
use Rattle.run_facts.proofs.Keeping.{down_keeps, paid_within, waited_keeps, kept_leaves, work_falls}
use Rattle.run_facts.proofs.Footprints.{intents_push, footprint_of}
use Rattle.run_facts.proofs.RowsKept.{rows_go}
use Rattle.run_facts.proofs.RoomKept.{room_go, within_go, space_go, super_go, units_go, half_go}
use Rattle.run_facts.proofs.BookKept.{book_go, acked_in_turn}
use Rattle.run_facts.proofs.RowsSteps.{MayAll, next_go, none_joins, may_all}
use Rattle.run_facts.proofs.RowsAccepted.{accepted_takes, accepted_numbers, accepted_joins, accepted_record, accepted_few}
use Rattle.run_facts.proofs.RowsOpened.{opened_rows}

-- ---- steps

few_more : (commits commits' pending pending' entries : ℕ) → commits + pending ≤ entries → commits' + pending' ≡ commits + pending → commits' + pending' ≤ entries
few_more commits commits' pending pending' entries le is = omega (arith, le, is)

-- what was the log is one run, if there is any of it
first_run : (tail half : ℕ) → tail ≤ half → AreRunsFrom 0 half (front_run tail)
first_run zero half most = tt
first_run (suc n) half most = (omega arith, omega arith, omega (arith, most), tt)

-- a step that was paid, of a kernel that stays up
paid_keeps : (step : Step) (s : State) (d : Disk) (s' : State) (d' : Disk) → IsKept s d → IsSound d' → s.down ≡ None → is_ready step d.depth s ≡ true
    → DoesOrFails step s d s' d' → Paid s d s' d' → FlightsMatch s' d'.flights → IsKept s' d'
paid_keeps step s d s' d' kept sound up ready does paid matches = record {
  always = record {
    device = sound;
    limits = super_go (rows_part s) (rows_part s') f.rows a.limits;
    units = units_go (rows_part s) (rows_part s') f.rows ∙ a.units ∙ sym paid.units;
    space = space_go (rows_part s) (rows_part s') f.rows a.space;
    flights = paid.flights;
    few = record {
      commits = subst (λ (es : List Entry). length s'.book.commits + length s'.pending ≤ length es) (sym paid.near.entries)
          (few_more (length s.book.commits) (length s'.book.commits) (length s.pending) (length s'.pending) (length s.book.entries) a.few.commits paid.near.under);
      entries = subst (λ (es : List Entry). length es ≤ 1048576) (sym paid.near.entries) a.few.entries;
    };
    book = book_go s.events f.touch (book_part s) (book_part s') f.book (acked_in_turn s d s' d' f.rows f.book f.caused) a.book;
    events = subst (λ (es : List Entry). s'.events + work_left s' ≤ 2 ^ 61 + check_most + entry_work * length es) (sym paid.near.entries)
        (paid_within s.events s'.events (work_left s) (work_left s') (budget s) a.events paid.falls paid.near.events);
    numbers = subst (λ (es : List Entry). s'.log.number + work_left s' ≤ 2 ^ 61 + check_most + entry_work * length es) (sym paid.near.entries)
        (paid_within s.log.number s'.log.number (work_left s) (work_left s') (budget s) a.numbers paid.falls paid.near.number);
    epochs = subst (λ (es : List Entry). s'.log.sup.epoch + work_left s' ≤ 2 ^ 61 + check_most + entry_work * length es) (sym paid.near.entries)
        (paid_within s.log.sup.epoch s'.log.sup.epoch (work_left s) (work_left s') (budget s) a.epochs paid.falls paid.near.epoch);
    sbids = subst (λ n. n ≤ 2 ^ 62)
        (sym (next_go (rows_part s) (rows_part s') f.rows (none_joins s d s' d' paid.near.entries f.rows f.book f.caused))) a.sbids;
  };
  up = λ _. record {
    flights = matches;
    rows = rows_go (rows_part s) (rows_part s') f.rows a.limits a.space may.rows (kept.up up).rows;
    room = room_go (rows_part s) (rows_part s') f.rows may.room (kept.up up).room;
    within = within_go (rows_part s) (rows_part s') f.rows may.room (kept.up up).rows.submitted (kept.up up).room (kept.up up).within;
    stale = subst (λ (half : ℕ). AreRunsFrom 0 half s'.log.stale) (sym (half_go (rows_part s) (rows_part s') f.rows)) (still_stale paid.near.stale);
  };
}
  where
    a : IsAlwaysKept s d
    a = kept.always

    f : Footprint s d s' d'
    f = footprint_of (stepping step) s d s' d' kept (paid.near.up ∙ up) (ready, does)

    still_stale : (s'.log.stale ≡ s.log.stale) ⊎ (s'.log.stale ≡ front_run s.log.tail) → AreRunsFrom 0 s.log.sup.half s'.log.stale
    still_stale (inl same) = subst (AreRunsFrom 0 s.log.sup.half) (sym same) (kept.up up).stale
    still_stale (inr was) = subst (AreRunsFrom 0 s.log.sup.half) (sym was) (first_run s.log.tail s.log.sup.half (kept.up up).room.tail)

    may : MayAll (rows_part s) f.rows
    may = may_all s d s' d' paid.near.entries (rows_part s) f.rows f.book f.caused

-- where the kernel is down nothing else is asked
down_kept : (s : State) (d : Disk) (s' : State) (d' : Disk) → IsSound d' → IsAlwaysKept s d → GoneDown s d s' d' → IsKept s' d'
down_kept s d s' d' sound a t = record { always = down_keeps s d s' d' sound a t; up = λ none. absurd (not_down s'.down none t.down) }
  where
    not_down : {A : Type 0} (o : Option A) → o ≡ None → is_some o ≡ true → ⊥
    not_down o none some = let e = ap is_some none in cc

-- an answer None leaves what is in flight as it is
waited_kept : (s : State) (d d' : Disk) → IsSound d' → IsKept s d → Waited d d' → IsKept s d'
waited_kept s d d' sound kept waited = record {
  always = waited_keeps s d d' sound kept.always waited;
  up = λ down. record {
    flights = waited_does s d d' (kept.up down).flights waited;
    rows = (kept.up down).rows;
    room = (kept.up down).room;
    within = (kept.up down).within;
    stale = (kept.up down).stale;
  };
}

pub kept_step : (step : Step) (s s' : State) (d d' : Disk) → IsKept s d → is_ready step d.depth s ≡ true → DoesOrFails step s d s' d' → IsSound d'
    → IsKept s' d'
kept_step step s s' d d' kept ready does sound = of_leaves (kept_leaves step s d s' d' kept ready does)
  where
    of_leaves : StepOutcome s d s' d' → IsKept s' d'
    of_leaves (has_stepped up paid matches) = paid_keeps step s d s' d' kept sound up ready does paid matches
    of_leaves (has_waited none same some) = subst (λ (t : State). IsKept t d') (sym same) (waited_kept s d d' sound kept none)
    of_leaves (has_gone_down gone) = down_kept s d s' d' sound kept.always gone

-- ---- an entry of the book

-- which may add so much work, and leaves room for events and numbers
more_within : (e w w' entries entries' : ℕ) → e + w ≤ 2 ^ 61 + check_most + entry_work * entries → w' ≤ w + entry_work → entries' ≡ entries + 1
    → e + w' ≤ 2 ^ 61 + check_most + entry_work * entries'
more_within e w w' entries entries' le more is = omega (arith, le, more, is)

-- an answer without a transaction
entered_kept : (s : State) (d : Disk) (client line : ℕ) (command : Command) (a : Answer) → IsKept s d → s.down ≡ None → length s.book.entries < entry_limit
    → IsKept (entered client line command a s) d
entered_kept s d client line command a kept up below =
    let entry : Entry = record { client = client; line = line; command = command; answer = a; acks = s.acked } in
    let entries : length (s.book.entries ++ entry ∷ []) ≡ length s.book.entries + 1 = length-append s.book.entries (entry ∷ []) in
    let was : IsAlwaysKept s d = kept.always in
    record {
      always = record {
        device = was.device;
        limits = was.limits;
        units = was.units;
        space = was.space;
        flights = was.flights;
        few = record { commits = omega (arith, entries, was.few.commits); entries = omega (arith, entries, below) };
        book = record { acks = was.book.acks; within = was.book.within; all = was.book.all };
        events = more_within s.events (work_left s) (work_left s) (length s.book.entries) _ was.events (most (work_left s)) entries;
        numbers = more_within s.log.number (work_left s) (work_left s) (length s.book.entries) _ was.numbers (most (work_left s)) entries;
        epochs = more_within s.log.sup.epoch (work_left s) (work_left s) (length s.book.entries) _ was.epochs (most (work_left s)) entries;
        sbids = was.sbids;
      };
      up = λ _. record {
        flights = one_more_entry client line command a s d.flights (kept.up up).flights;
        rows = (kept.up up).rows;
        room = (kept.up up).room;
        within = (kept.up up).within;
        stale = (kept.up up).stale;
      };
    }
  where
    most : (w : ℕ) → w ≤ w + entry_work
    most w = omega arith

-- ---- submitting

-- one more joins the rows
joined_rows : (s : State) (client line : ℕ) (change : Change) (plan : Plan)
    → rows_part (accepted_with client line change plan s)
    ≡ with_accepted (intent_of (context_of (length s.book.entries) change s.log plan)) plan.new_blobs (rows_part s)
joined_rows s client line change plan =
    ap (λ (is : List Intent). (let t : State = accepted_with client line change plan s in record (rows_part t) { intents = is }))
    (intents_push (option_map_or (λ (b : Batch). b.contexts) s.batch []) s.pending (context_of (length s.book.entries) change s.log plan))

module _ (keep : PlansKeep) (s : State) (d : Disk) (client line : ℕ) (change : Change) (s' : State) (kept : IsKept s d) (known : IsKnown change.ops)
    (does : Accepts client line change s d s') where
  up : s.down ≡ None
  up = does.can_note.up

  a : IsAlwaysKept s d
  a = kept.always

  were : AreRowsKept (rows_part s)
  were = (kept.up up).rows

  abbrev x : Context
  x = context_of (length s.book.entries) change s.log does.plan

  abbrev t : State
  t = accepted_with client line change does.plan s

  abbrev entry : Entry
  entry = record { client = client; line = line; command = ask.Change change; answer = answer.Accepted; acks = s.acked }

  entries : length (s.book.entries ++ entry ∷ []) ≡ length s.book.entries + 1
  entries = length-append s.book.entries (entry ∷ [])

  waits : length (s.pending ++ x ∷ []) ≡ length s.pending + 1
  waits = length-append s.pending (x ∷ [])

  abbrev goes : rows.RowsGo (rows_part s) (rows_part t)
  goes = rows.joins (intent_of x) does.plan.new_blobs (joined_rows s client line change does.plan)

  -- the work that it adds
  more : work_left t ≤ work_left s + entry_work
  more = much (length s.flying) (sum_work s.pending) (sum_work (s.pending ++ x ∷ [])) (length does.plan.fresh) (need_of s.log does.plan)
      s.log.sup.half (check_units s.log.number s.log.rows) s.log.reserved (option_map_or (batch_work s.log) s.batch 0)
      (option_map_or (switch_work s.log) s.switching (check_due s.log)) (applied_count s - s.acked) (sum_both s.pending (x ∷ []))
      (accepted_few keep s d client line change s' a.limits a.space were known does) does.fits a.limits.half_most
    where
      pieces : (need half rows reserved : ℕ) → need ≤ half - rows - reserved → half ≤ 65536 → piece_count need ≤ 1024
      pieces need half rows reserved fits most = omega (arith, fits, most)

      many : (flies work work' fresh count batch switch left : ℕ) → work' ≡ work + ((2 * (fresh - 0) + 8 + 2 * count + check_most) + 0) → fresh ≤ 1048576
          → count ≤ 1024 → flies + work' + batch + switch + left ≤ flies + work + batch + switch + left + entry_work
      many flies work work' fresh count batch switch left is few fewer = omega (arith, is, few, fewer)

      much : (flies work work' fresh need half rows reserved batch switch left : ℕ)
          → work' ≡ work + ((2 * (fresh - 0) + 8 + 2 * piece_count need + check_most) + 0) → fresh ≤ 1048576 → need ≤ half - rows - reserved → half ≤ 65536
          → flies + work' + batch + switch + left ≤ flies + work + batch + switch + left + entry_work
      much flies work work' fresh need half rows reserved batch switch left is few fits most =
          many flies work work' fresh (piece_count need) batch switch left is few (pieces need half rows reserved fits most)

  room : rows_units s.log.rows + (s.log.reserved + need_of s.log does.plan) ≤ s.log.sup.half
  room = behind (check_units s.log.number s.log.rows) (rows_units s.log.rows) s.log.reserved s.log.sup.half (need_of s.log does.plan)
      (check_units_are s.log.number s.log.rows) does.fits (kept.up up).room.room
    where
      behind : (check rows reserved half need : ℕ) → check ≡ rows → need ≤ half - check - reserved → rows + reserved ≤ half → rows + (reserved + need) ≤ half
      behind check rows reserved half need is fits le = omega (arith, is, fits, le)

  fits_record : FitsRecord (intent_of x)
  fits_record = accepted_record keep s d client line change s' a.limits a.space were known does

  pub accepted_kept : IsKept s' d
  accepted_kept = subst (λ (z : State). IsKept z d) (sym does.after) (record {
    always = record {
      device = a.device;
      limits = a.limits;
      units = a.units;
      space = space_go (rows_part s) (rows_part t) goes a.space;
      flights = a.flights;
      few = record { commits = omega (arith, entries, waits, a.few.commits); entries = omega (arith, entries, does.can_note.room) };
      book = record { acks = a.book.acks; within = a.book.within; all = a.book.all };
      events = more_within s.events (work_left s) (work_left t) (length s.book.entries) _ a.events more entries;
      numbers = more_within s.log.number (work_left s) (work_left t) (length s.book.entries) _ a.numbers more entries;
      epochs = more_within s.log.sup.epoch (work_left s) (work_left t) (length s.book.entries) _ a.epochs more entries;
      sbids = (accepted_takes keep s d client line change s' a.limits a.space were known does).low;
    };
    up = λ _. record {
      flights = one_more_waits client line change does.plan s d.flights (kept.up up).flights;
      rows = rows_go (rows_part s) (rows_part t) goes a.limits a.space
          (accepted_joins keep s d client line change s' a.limits a.space were known does,
          λ sbid made. (accepted_numbers keep s d client line change s' a.limits a.space were known does sbid made).1) were;
      room = room_go (rows_part s) (rows_part t) goes (fits_record, room) (kept.up up).room;
      within = within_go (rows_part s) (rows_part t) goes (fits_record, room) were.submitted (kept.up up).room (kept.up up).within;
      stale = (kept.up up).stale;
    };
  })

pub kept_accept : PlansKeep → (s s' : State) (d : Disk) (client line : ℕ) (change : Change) → IsKept s d → IsKnown change.ops
    → Accepts client line change s d s' → IsKept s' d
kept_accept keep s s' d client line change kept known does = accepted_kept keep s d client line change s' kept known does

pub kept_refuse : (s s' : State) (d : Disk) (client line : ℕ) (change : Change) (a : Answer) → IsKept s d → IsKnown change.ops
    → Refuses client line change a s d s' → IsKept s' d
kept_refuse s s' d client line change a kept may does = subst (λ (t : State). IsKept t d) (sym does.after)
    (entered_kept s d client line (ask.Change change) a kept does.can_note.up does.can_note.room)

-- ---- reading

-- a read that is answered adds an entry to the book
pub kept_answer : (s s' : State) (d : Disk) (client line : ℕ) (read : Read) (a : Answer) → IsKept s d
    → AnswersRead client line read a s d s' → IsKept s' d
kept_answer s s' d client line read a kept is = subst (λ (t : State). IsKept t d) (sym is.after)
    (entered_kept s d client line (ask.Read read) a kept is.can_note.up is.can_note.room)

-- so does one that is turned away
pub kept_read : (s s' : State) (d : Disk) (client line : ℕ) (read : Read) → IsKept s d → Reads client line read s d s' → IsKept s' d
kept_read s s' d client line read kept (inl (a, is)) = kept_answer s s' d client line read a kept is
kept_read s s' d client line read kept (inr away) = subst (λ (t : State). IsKept t d) (sym away.same) kept

-- ---- opening

pub kept_open : (f : Found) (space : Space) (next events : ℕ) (d : Disk) → IsSound d → d.flights ≡ [] → events ≤ 2 ^ 61
    → IsOpenable f space next d.units → IsKept (opened f space next events) d
kept_open f space next events d sound idle few is = record {
  always = record {
    device = sound;
    limits = is.limits;
    units = is.units_are;
    space = is.space;
    flights = sym (ap (map (λ f. f.ticket)) idle);
    few = record { commits = omega arith; entries = omega arith };
    book = record { acks = λ i. tt; within = omega arith; all = omega arith };
    events = first (check_due t.log) events (due_most t.log) few;
    numbers = first (check_due t.log) f.number (due_most t.log) is.number;
    epochs = first (check_due t.log) f.sup.epoch (due_most t.log) is.epoch;
    sbids = is.sbids;
  };
  up = λ _. record {
    flights = record {
      places = record { ascend = tt; below = tt };
      waiting = tt;
      batch = (refl, refl);
      switch = refl;
      alone = tt;
      touches = subst (λ (fs : List Flight). AreOfJobs (opened f space next events).log [] [] fs) (sym idle) tt;
    };
    rows = opened_rows f space next events d.units is;
    room = record { fits = tt; reserved = refl; room = behind (rows_units f.rows) f.tail f.sup.half is.within is.tail; tail = is.tail; spelled = is.spelled };
    within = within_opened (rows_part (opened f space next events)) refl is.within;
    stale = is.stale;
  };
}
  where
    t : State
    t = opened f space next events

    first : (due n : ℕ) → due ≤ check_most → n ≤ 2 ^ 61 → n + (0 + 0 + 0 + due + (0 - 0 - 0)) ≤ 2 ^ 61 + check_most + entry_work * 0
    first due n most low = omega (arith, most, low)

    behind : (units tail half : ℕ) → units ≤ tail → tail ≤ half → units + 0 ≤ half
    behind units tail half le most = omega (arith, le, most)

-- ---- for the laws

pub step_less : (step : Step) (s s' : State) (d d' : Disk) → IsKept s d → is_ready step d.depth s ≡ true → DoesOrFails step s d s' d' → IsSound d'
    → measure s' d'.waits < measure s d.waits
step_less step s s' d d' kept ready does sound = work_falls step s d s' d' kept ready does

pub ruleset step_laws = (kept_step, step_less)

-- What is known where a step is ready: the conditions under which the kernel calls the device and the log.
use Rattle.std.proofs.Common.{◌≡◌, ℕ, ◌+◌, ◌-◌, ◌*◌, ◌^◌, ◌<◌, ◌≤◌, true, nat_lt, List, [], ◌∷◌, ◌++◌, length, Option, Some, None, refl, sym, ap, subst, ◌∙◌, arith}
use Rattle.run_facts.proofs.Common.{AllByRecursion, flat_map, option_map_or, ltb-true, Disk, IsSuper, RowOp, ops_bytes, unit_count, piece_count, Context, Begun, is_flushed}
use Rattle.meta_rows.specs.Prelude.{FitsRowOp, AllFit}
use Rattle.store_steps.specs.declared.flight.FlushState.TheVariants as flush
use Rattle.store_steps.specs.declared.step.Step.TheVariants.{Take, Record, Commit, Finish}
use Rattle.store_steps.specs.Prelude.{Batch, State, Unsent, unsent_units, run_bytes, next_unsent, batch_ops, sum_needs, applied_count, is_ready_up, uncommitted, intent_of, intents, needs_by, rows_part}
use Rattle.flight_facts.specs.Prelude.{by_one, by_pieces, IsEnded, batch_pieces, batch_stages, IsBatchOpen, IsBatchFar, is_of_batch, flying_for, IsAllGiven, FitsRecord, check_most, entry_work, work_left}
use Rattle.flight_facts.proofs.Prelude.{same_count, short_body, IsRunOf, row_bytes, run_whole, StandsIn, all_left, all_right, all_join, next_stands, test_of, some_is, all_at, open_far, begun_far, synced_far, ended_ahead, ended_flushed, some_pieces, take_tests, record_tests, pieces_left, needs_both}
use Rattle.meta_log.specs.Prelude.{next_super}
use Rattle.store_steps.specs.declared.flight.Job.TheVariants as job
use Rattle.run_facts.specs.Prelude.{HasRoom, IsAlwaysKept, IsKeptUp}
use Rattle.run_facts.proofs.Numbers.{NextAcked, next_acked}

-- ---- the device takes one more submission

pub room_at_device : (s : State) (d : Disk) → IsAlwaysKept s d → nat_lt (length s.flying) d.depth ≡ true → length d.flights < d.depth
room_at_device s d a ready = subst (λ (n : ℕ). n < d.depth) (same_count s.flying d.flights a.flights) (ltb-true (length s.flying) d.depth ready)

-- ---- contexts

-- what holds of the intents of contexts
each_fits : (xs : List Context) → AllByRecursion FitsRecord (intents xs) → AllByRecursion (λ x. FitsRecord (intent_of x)) xs
each_fits [] all = tt
each_fits (x ∷ xs) all = (all.0, each_fits xs all.1)

pub all_fit : (s : State) → HasRoom (rows_part s) → AllByRecursion (λ x. FitsRecord (intent_of x)) (uncommitted s)
all_fit s room = each_fits (uncommitted s) room.fits

pub pending_fits : (s : State) → HasRoom (rows_part s) → AllByRecursion (λ x. FitsRecord (intent_of x)) s.pending
pending_fits s room = all_right (λ x. FitsRecord (intent_of x)) (option_map_or (λ (b : Batch). b.contexts) s.batch []) s.pending (all_fit s room)

pub batch_fits : (s : State) (b : Batch) → HasRoom (rows_part s) → s.batch ≡ Some b → AllByRecursion (λ x. FitsRecord (intent_of x)) b.contexts
batch_fits s b room is = all_left (λ x. FitsRecord (intent_of x)) b.contexts s.pending
    (subst (λ (o : Option Batch). AllByRecursion (λ x. FitsRecord (intent_of x)) (option_map_or (λ (c : Batch). c.contexts) o [] ++ s.pending)) is (all_fit s room))

-- the needs of contexts
pub needs_are : (xs : List Context) → needs_by (intents xs) ≡ sum_needs xs
needs_are [] = refl
needs_are (x ∷ xs) = ap (λ (n : ℕ). x.need + n) (needs_are xs)

-- ---- Data

-- the context whose data write is next, among those that wait
pub record ReadyData (s : State) (n : Unsent) : Type 0 where
  pub at : StandsIn (λ x. IsRunOf x n) s.pending
  pub fits : FitsRecord (intent_of at.item)
  pub whole : AllByRecursion (λ f. length f.bytes ≡ 4096) (unsent_units n)
  pub size : length (run_bytes (unsent_units n)) ≡ 4096 * length (unsent_units n)

pub data_ready : (s : State) (n : Unsent) → HasRoom (rows_part s) → next_unsent s.pending ≡ Some n → ReadyData s n
data_ready s n room is = record { at = at; fits = fits; whole = whole; size = row_bytes (unsent_units n) whole }
  where
    at : StandsIn (λ x. IsRunOf x n) s.pending
    at = next_stands s.pending n is

    fits : FitsRecord (intent_of at.item)
    fits = all_at (λ x. FitsRecord (intent_of x)) at.front at.item at.back s.pending at.is (pending_fits s room)

    whole : AllByRecursion (λ f. length f.bytes ≡ 4096) (unsent_units n)
    whole = run_whole at.item n at.holds fits

-- ---- the open batch

pub batch_written : (s : State) (d : Disk) (b : Batch) → IsKeptUp s d → s.batch ≡ Some b → AllByRecursion IsAllGiven b.contexts
batch_written s d b up is = (open_far s d.flights b up.flights is).written

-- its operations have a spelling
ops_fit : (xs : List Context) → AllByRecursion (λ x. FitsRecord (intent_of x)) xs → AllFit (flat_map (λ x. x.ops) xs)
ops_fit [] all = tt
ops_fit (x ∷ xs) all = all_join FitsRowOp x.ops (flat_map (λ x. x.ops) xs) (all.0).fit (ops_fit xs all.1)

-- what is known of its record while it isn't committed
pub record HasRecord (s : State) (b : Batch) : Type 0 where
  pub fit : AllFit (batch_ops b)
  pub body : length (ops_bytes (batch_ops b)) < 2 ^ 32
  pub needed : unit_count s.log.number (batch_ops b) ≤ sum_needs b.contexts
  pub needs : sum_needs b.contexts ≤ s.log.reserved
  pub room : s.log.tail + unit_count s.log.number (batch_ops b) ≤ s.log.sup.half

pub has_record : (s : State) (d : Disk) (b : Batch) → IsAlwaysKept s d → IsKeptUp s d → s.batch ≡ Some b → HasRecord s b
has_record s d b a up is = record {
  fit = ops_fit b.contexts (batch_fits s b up.room is);
  body = short_body s.log.number (batch_ops b) (few s.log.tail (unit_count s.log.number (batch_ops b)) s.log.sup.half room a.limits.half_most);
  needed = needed;
  needs = needs;
  room = room;
}
  where
    needed : unit_count s.log.number (batch_ops b) ≤ sum_needs b.contexts
    needed = (open_far s d.flights b up.flights is).needed

    reserved : s.log.reserved ≡ sum_needs (b.contexts ++ s.pending)
    reserved = up.room.reserved ∙ needs_are (uncommitted s)
        ∙ ap (λ (o : Option Batch). sum_needs (option_map_or (λ (c : Batch). c.contexts) o [] ++ s.pending)) is

    needs : sum_needs b.contexts ≤ s.log.reserved
    needs = omega (arith, reserved, needs_both b.contexts s.pending)

    room : s.log.tail + unit_count s.log.number (batch_ops b) ≤ s.log.sup.half
    room = (open_far s d.flights b up.flights is).fits

    few : (tail units half : ℕ) → tail + units ≤ half → half ≤ 65536 → units ≤ 65536
    few tail units half le most = omega (arith, le, most)

-- the number of the next record is far below the greatest
pub number_low : (s : State) (d : Disk) → IsAlwaysKept s d → s.log.number < 2 ^ 62
number_low s d a = low s.log.number (work_left s) (length s.book.entries) a.numbers a.few.entries
  where
    low : (n w entries : ℕ) → n + w ≤ 2 ^ 61 + check_most + entry_work * entries → entries ≤ 1048576 → n < 2 ^ 62
    low n w entries le most = omega arith

-- neither a batch nor a switch is open where one may be
pub take_none : (s : State) (depth : ℕ) → is_ready_up Take depth s ≡ true → (s.batch ≡ None) × (s.switching ≡ None)
take_none = take_tests

-- and so is the epoch
pub epoch_low : (s : State) (d : Disk) → IsAlwaysKept s d → s.log.sup.epoch + 1 < 2 ^ 62
epoch_low s d a = low s.log.sup.epoch (work_left s) (length s.book.entries) a.epochs a.few.entries
  where
    low : (n w entries : ℕ) → n + w ≤ 2 ^ 61 + check_most + entry_work * entries → entries ≤ 1048576 → n + 1 < 2 ^ 62
    low n w entries le most = omega arith

-- so the superblock that follows has its limits
pub next_limits : (s : State) (d : Disk) → IsAlwaysKept s d → IsSuper (next_super s.log.sup s.log.number)
next_limits s d a = record {
  units_most = a.limits.units_most;
  half_least = a.limits.half_least;
  half_most = a.limits.half_most;
  room = a.limits.room;
  prefer_most = a.limits.prefer_most;
  epoch_below = epoch_low s d a;
  first_below = number_low s d a;
}

-- ---- Record

-- the record that was made has a piece that isn't given
pub record ReadyRecord (s : State) (r : Begun) : Type 0 where
  pub batch : Batch
  pub is_open : s.batch ≡ Some batch
  pub ops : r.ops ≡ batch_ops batch
  pub more : r.given < piece_count (unit_count s.log.number r.ops)
  pub room : s.log.tail + unit_count s.log.number r.ops ≤ s.log.sup.half

-- a record that is made is the batch's
pub made_ops : (s : State) (d : Disk) (b : Batch) (r : Begun) → IsKeptUp s d → s.batch ≡ Some b → s.log.begun ≡ Some r → r.ops ≡ batch_ops b
made_ops s d b r up is begun = (begun_far s d.flights b (Some r) up.flights is begun).made

-- and there is one where a record is made
pub record IsMade (s : State) (r : Begun) : Type 0 where
  pub batch : Batch
  pub is_open : s.batch ≡ Some batch
  pub ops : r.ops ≡ batch_ops batch

pub made_batch : (s : State) (d : Disk) (r : Begun) → IsKeptUp s d → s.log.begun ≡ Some r → IsMade s r
made_batch s d r up begun = of_batch s.batch refl
    (subst (λ (o : Option Begun). IsBatchFar s.log.sup.half s.log.tail s.log.number s.batch o (flying_for is_of_batch s.flying)) begun up.flights.batch)
  where
    of_batch : (o : Option Batch) → s.batch ≡ o → IsBatchFar s.log.sup.half s.log.tail s.log.number o (Some r) (flying_for is_of_batch s.flying) → IsMade s r
    of_batch None is far = absurd (let e = far.0 in cc)
    of_batch (Some b) is far = record { batch = b; is_open = is; ops = made_ops s d b r up is begun }

-- a record of which a piece was given is made once the first flush has ended
pub given_flushed : (s : State) (d : Disk) (b : Batch) (r : Begun) → IsKeptUp s d → s.batch ≡ Some b → s.log.begun ≡ Some r → 0 < r.given
    → b.first ≡ flush.Flushed
given_flushed s d b r up is begun some =
    let pieces : ℕ = batch_pieces s.log.number b in
    let ahead = ended_ahead (by_one job.DataFlush b.first ∷ []) (by_pieces job.Record pieces r.given r.written) (by_one job.RecordFlush b.second ∷ [])
    (flying_for is_of_batch s.flying) (λ unsent. never r.given unsent.0 some) (begun_far s d.flights b (Some r) up.flights is begun).far in
    ended_flushed job.DataFlush b.first ahead.0
  where
    never : (given : ℕ) → given ≡ 0 → 0 < given → ⊥
    never given none some = omega (arith, none, some)

pub record_ready : (s : State) (d : Disk) (r : Begun) → IsAlwaysKept s d → IsKeptUp s d → is_ready_up Record d.depth s ≡ true → s.log.begun ≡ Some r
    → ReadyRecord s r
record_ready s d r a up ready begun =
    let b = some_is (λ b. is_flushed b.first) s.batch (record_tests s d.depth ready).0 in
    let ops : r.ops ≡ batch_ops b.0 = made_ops s d b.0 r up b.1 begun in
    record {
      batch = b.0;
      is_open = b.1;
      ops = ops;
      more = pieces_left s d.depth r ready begun;
      room = subst (λ (o : List RowOp). s.log.tail + unit_count s.log.number o ≤ s.log.sup.half) (sym ops) (has_record s d b.0 a up b.1).room;
    }

-- ---- Commit

-- all pieces of the batch's record have ended well, and so has the flush behind them
pub record ReadyCommit (s : State) (b : Batch) : Type 0 where
  pub writing : Begun
  pub begun : s.log.begun ≡ Some writing
  pub ops : writing.ops ≡ batch_ops b
  pub given : writing.given ≡ piece_count (unit_count s.log.number (batch_ops b))
  pub written : writing.written ≡ piece_count (unit_count s.log.number (batch_ops b))

pub commit_ready : (s : State) (d : Disk) (b : Batch) → IsKeptUp s d → is_ready_up Commit d.depth s ≡ true → s.batch ≡ Some b → ReadyCommit s b
commit_ready s d b up ready is = of_begun s.log.begun refl ended.1.0
  where
    opened : IsBatchOpen s.log.sup.half s.log.tail s.log.number b s.log.begun (flying_for is_of_batch s.flying)
    opened = open_far s d.flights b up.flights is

    ended : AllByRecursion IsEnded (batch_stages (batch_pieces s.log.number b) b s.log.begun)
    ended = synced_far s.log.sup.half s.log.tail s.log.number b s.log.begun (flying_for is_of_batch s.flying) opened
        (test_of (λ b. is_flushed b.second) s.batch b is ready)

    none : (pieces : ℕ) → 0 ≡ pieces → 0 < pieces → ⊥
    none pieces is some = omega (arith, is, some)

    of_begun : (o : Option Begun) → s.log.begun ≡ o
        → IsEnded (by_pieces job.Record (batch_pieces s.log.number b) (option_map_or (λ r. r.given) s.log.begun 0) (option_map_or (λ r. r.written) s.log.begun 0))
        → ReadyCommit s b
    of_begun None is w = absurd (none (batch_pieces s.log.number b) (sym (ap (λ (o : Option Begun). option_map_or (λ r. r.given) o 0) is) ∙ w.0)
        (some_pieces s.log.number (batch_ops b)))
    of_begun (Some r) begun w = record {
      writing = r;
      begun = begun;
      ops = made_ops s d b r up is begun;
      given = sym (ap (λ (o : Option Begun). option_map_or (λ r. r.given) o 0) begun) ∙ w.0;
      written = sym (ap (λ (o : Option Begun). option_map_or (λ r. r.written) o 0) begun) ∙ w.1;
    }

-- ---- Finish

pub finish_ready : (s : State) (d : Disk) → IsAlwaysKept s d → is_ready_up Finish d.depth s ≡ true
    → (s.acked < length s.book.commits) × NextAcked s.book.commits s.acked
finish_ready s d a ready =
    let below : s.acked < length s.book.commits = fewer s.acked (length s.book.commits) _ (ltb-true s.acked (applied_count s) ready) in
    (below, next_acked s.book.commits s.acked a.book.acks below)
  where
    fewer : (acked commits batch : ℕ) → acked < commits - batch → acked < commits
    fewer acked commits batch lt = omega arith

-- ---- each step

-- the count of events fits its type, whatever is done next
pub events_fit : (s : State) (d : Disk) → IsAlwaysKept s d → s.events + 1 < 2 ^ 64
events_fit s d a = few s.events (work_left s) (length s.book.entries) a.events a.few.entries
  where
    few : (e w entries : ℕ) → e + w ≤ 2 ^ 61 + check_most + entry_work * entries → entries ≤ 1048576 → e + 1 < 2 ^ 64
    few e w entries le most = omega arith

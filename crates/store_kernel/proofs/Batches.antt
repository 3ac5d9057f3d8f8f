-- What the steps that the device has no part in do to the state.
use Rattle.std.proofs.Common.{◌≡◌, ◌≢◌, inl, inr, ℕ, zero, suc, ◌+◌, ◌-◌, ◌&&◌, ◌^◌, ◌<◌, ◌≤◌, nat_lt, Bool, true, cond, List, [], ◌∷◌, ◌++◌, length, map, take, Option, Some, None, is_some, is_none, slice_get, get_or, set, refl, sym, ap, subst, ◌∙◌, append_assoc, arith}
use Rattle.std.specs.Prelude.{Contains}
use Rattle.std.specs.List.{flat_map}
use Rattle.std.specs.Option.{option_map_or}
use Rattle.unit_allocator.proofs.Lists.{Contains-head}
use Rattle.std.proofs.lemmas.List.Elements.{Contains-append_right}
use Rattle.std.proofs.lemmas.Bool.{lt-ltb, le-ltb, and_parts, cases_lt}
use Rattle.std.proofs.lemmas.Option.{IfSome_then}
use Rattle.block_device.specs.Prelude.{Disk}
use Rattle.object_model.specs.declared.book.Commit.{Commit}
use Rattle.byte_maps.specs.Units.{units_for}
use Rattle.meta_rows.specs.declared.row_op.RowOp.{RowOp}
use Rattle.meta_rows.specs.Prelude.{ops_bytes}
use Rattle.meta_log.specs.Prelude.{unit_count, piece_count}
use Rattle.meta_store.specs.Store as meta
use Rattle.meta_store.specs.Checks.{with_check}
use Rattle.unit_allocator.specs.Prelude.{given}
use Rattle.store_steps.specs.declared.context.Context.{Context}
use Rattle.store_steps.specs.declared.flight.FlushState.TheVariants as flush
use Rattle.store_steps.specs.Prelude.{Batch, State, most_grouped, chosen, choice, left_by, without_context, batch_released, sum_needs, log_after, commit_of, acknowledged, is_ready, units_taken, uncommitted, rows_units, OpensBatch, OpensCheck, DoesCommit, DoesFinish, intent_of}
use Rattle.waiting_contexts.specs.declared.choosing.Choice.{Choice}
use Rattle.waiting_contexts.specs.Choices.{IsChoiceOf}
use Rattle.flight_facts.specs.Prelude.{FlightsMatch, FitsRecord}
use Rattle.flight_facts.proofs.Pieces.{length-record}
use Rattle.flight_facts.proofs.Needs.{needs_most}
use Rattle.flight_facts.proofs.Prelude.{ArePicked, picked, all_picked, sum_picked, needs_both, short_body, rests_switch, rests_batch}
use Rattle.run_facts.specs.Prelude.{AcksAre, IsKept}
use Rattle.run_facts.proofs.Conditions.{pending_fits, needs_are}
use Rattle.run_facts.proofs.Prelude.{ready_not_down, some_of, take_none, HasRecord, ReadyCommit, known_batch, known_commit, known_finish, data_within, space_given, back_data, back_in_turn}
use Rattle.kv_worker.specs.Batches.{TakesBatch, CanCommit, flushed_batch}
use Rattle.store_image.specs.Prelude.{IsDataUnit}
use Rattle.store_kernel.specs.declared.batch.OpenBatch.{OpenBatch}
use Rattle.store_kernel.specs.Seen.{contexts_of, batch_of, is_sealed, IsStageOf}
use Rattle.store_kernel.proofs.Sending.{table_of}
use Rattle.std.proofs.lemmas.List.{map-append, take_more}
use Rattle.store_kernel.specs.Units.{CanBeGiven}
use Rattle.store_kernel.specs.Steps.{NextFits, NextIsTooLong}
use Rattle.store_steps.specs.declared.step.Step.TheVariants as step

-- ---- Take

-- where a batch is taken, one can be
pub one_is_chosen : (s : State) (d : Disk) → is_ready step.Take d.depth s ≡ true → choice most_grouped s.pending ≢ []
one_is_chosen s d ready none =
    let table = table_of s d.depth step.Take refl ready in
    let found = some_of (chosen s.pending) (and_parts (is_none s.batch && is_none s.switching) (is_some (chosen s.pending)) table).1 in
    let some : choice most_grouped s.pending ≡ found.0 ∷ choice 63 (without_context (found.0).place s.pending) = ap next found.1 in
    let both : [] ≡ found.0 ∷ choice 63 (without_context (found.0).place s.pending) = sym none ∙ some in
    cc
  where
    next : Option Context → List Context
    next o = option_map_or (λ (x : Context). x ∷ choice 63 (without_context x.place s.pending)) o []

-- nothing is under way for the log there: neither a record nor a checkpoint is begun
pub record RestsLog (s : State) : Type 0 where
  pub begun : s.log.begun ≡ None
  pub check : s.log.check ≡ None

pub none_begun : (s : State) (d : Disk) → IsKept s d → is_ready step.Take d.depth s ≡ true → RestsLog s
none_begun s d kept ready =
    let up : s.down ≡ None = ready_not_down s d.depth step.Take refl ready in
    let idle = take_none s d.depth (table_of s d.depth step.Take refl ready) in
    let flights : FlightsMatch s d.flights = (kept.up up).flights in
    record { begun = (rests_batch s d.flights flights idle.0).0; check = (rests_switch s d.flights flights idle.1).0 }

-- of contexts whose operations are spelled in so many bytes: these aren't too many, and tell what the record of those that come next takes
pub record AreBytesOfNext (s : State) (bytes : ℕ) : Type 0 where
  pub few : bytes < 2 ^ 43
  pub units : units_taken s ≡ units_for (24 + bytes)

pub bytes_of_next : (s : State) (d : Disk) (c : Choice) → IsKept s d → is_ready step.Take d.depth s ≡ true → IsChoiceOf (choice most_grouped s.pending) c
    → AreBytesOfNext s c.bytes
bytes_of_next s d c kept ready next = record {
  few = few c.bytes (length (ops_bytes ops)) same short;
  units = ap units_for (length-record s.log.number ops ∙ ap (λ (n : ℕ). 24 + n) (sym same));
}
  where
    up : s.down ≡ None
    up = ready_not_down s d.depth step.Take refl ready

    xs : List Context
    xs = choice most_grouped s.pending

    left : List Context
    left = left_by most_grouped s.pending

    ops : List RowOp
    ops = flat_map (λ x. x.ops) xs

    are : ArePicked s.pending xs left
    are = picked most_grouped s.pending (kept.up up).flights.places.ascend

    most : unit_count s.log.number ops ≤ sum_needs xs
    most = needs_most s.log.number xs (one_is_chosen s d ready)
        (all_picked (λ z. FitsRecord (intent_of z)) s.pending xs left are (pending_fits s (kept.up up).room)).0

    within : (units needs others wait front all reserved rows half : ℕ) → units ≤ needs → wait ≡ needs + others → all ≡ front + wait → reserved ≡ all
        → rows + reserved ≤ half → half ≤ 65536 → units ≤ 65536
    within units needs others wait front all reserved rows half le picked both is room few = omega (arith, le, picked, both, is, room, few)

    batched : List Context
    batched = option_map_or (λ (b : Batch). b.contexts) s.batch []

    short : length (ops_bytes ops) < 2 ^ 32
    short = short_body s.log.number ops
        (within (unit_count s.log.number ops) (sum_needs xs) (sum_needs left) (sum_needs s.pending) (sum_needs batched) (sum_needs (uncommitted s)) s.log.reserved
        (rows_units s.log.rows) s.log.sup.half most (sum_picked sum_needs needs_both s.pending xs left are) (needs_both batched s.pending)
        ((kept.up up).room.reserved ∙ needs_are (uncommitted s)) (kept.up up).room.room kept.always.limits.half_most)

    far : (n : ℕ) → n < 2 ^ 32 → n < 2 ^ 64
    far n lt = omega (arith, lt)

    same : c.bytes ≡ length (ops_bytes ops)
    same = next.bytes (far (length (ops_bytes ops)) short)

    few : (bytes n : ℕ) → bytes ≡ n → n < 2 ^ 32 → bytes < 2 ^ 43
    few bytes n is lt = omega (arith, is, lt)

-- so they tell whether it fits behind the tail
pub next_fits : (s : State) (d : Disk) (bytes units : ℕ) → IsKept s d → is_ready step.Take d.depth s ≡ true → AreBytesOfNext s bytes
    → units ≡ units_for (24 + bytes) → units ≤ s.log.sup.half - s.log.tail → NextFits s
next_fits s d bytes units kept ready next is le = record {
  fits = fits s.log.tail (units_taken s) units s.log.sup.half (next.units ∙ sym is) le
      (kept.up (ready_not_down s d.depth step.Take refl ready)).room.tail;
}
  where
    fits : (tail taken units half : ℕ) → taken ≡ units → units ≤ half - tail → tail ≤ half → tail + taken ≤ half
    fits tail taken units half is le within = omega (arith, is, le, within)

pub next_too_long : (s : State) (bytes units : ℕ) → AreBytesOfNext s bytes → units ≡ units_for (24 + bytes) → s.log.sup.half - s.log.tail < units
    → NextIsTooLong s
next_too_long s bytes units next is lt =
    record { too_long = long s.log.tail (units_taken s) units s.log.sup.half (next.units ∙ sym is) lt }
  where
    long : (tail taken units half : ℕ) → taken ≡ units → half - tail < units → half < tail + taken
    long tail taken units half is lt = omega (arith, is, lt)

-- each of these has its commit
pub noted : (commits : List Commit) (xs : List Context) (i : ℕ) (x : Context) → i < length xs → x ≡ get_or xs i x
    → (commits ++ map commit_of (take i xs)) ++ commit_of x ∷ [] ≡ commits ++ map commit_of (take (i + 1) xs)
noted commits xs i x below is =
    append_assoc commits (map commit_of (take i xs)) (commit_of x ∷ [])
    ∙ ap (λ (cs : List Commit). commits ++ cs)
    (sym (map-append commit_of (take i xs) (x ∷ []))
    ∙ ap (map commit_of) (sym (take_more xs i x below ∙ ap (λ (y : Context). take i xs ++ y ∷ []) (sym is))))

pub take_does : (s : State) (d : Disk) (xs batch : List Context) → is_ready step.Take d.depth s ≡ true → NextFits s → TakesBatch s.pending xs batch
    → OpensBatch s d (record s {
      pending = xs;
      batch = Some (record { contexts = batch; first = flush.NotSent; second = flush.NotSent });
      book = record s.book { commits = s.book.commits ++ map commit_of batch };
    }) d
take_does s d xs batch ready fits takes = record {
  some = one_is_chosen s d ready;
  fits = fits.fits;
  same = refl;
  after = ap (λ (l : List Context). after_with l batch) takes.left ∙ ap (after_with (left_by most_grouped s.pending)) takes.is;
}
  where
    after_with : List Context → List Context → State
    after_with l b = record s {
      pending = l;
      batch = Some (record { contexts = b; first = flush.NotSent; second = flush.NotSent });
      book = record s.book { commits = s.book.commits ++ map commit_of b };
    }

-- or a checkpoint is opened
pub open_does : (s : State) (d : Disk) (m : meta.Meta) → IsKept s d → is_ready step.Take d.depth s ≡ true → NextIsTooLong s → m ≡ with_check s.log
    → OpensCheck s d (record s {
      log = m;
      switching = Some (record { flush = flush.NotSent; slot = flush.NotSent; slot_flush = flush.NotSent });
    }) d
open_does s d m kept ready long made = record {
  some = one_is_chosen s d ready;
  too_long = long.too_long;
  same = refl;
  after = ap (λ (l : meta.Meta). let later : State = record s {
    log = l;
    switching = Some (record { flush = flush.NotSent; slot = flush.NotSent; slot_flush = flush.NotSent });
  } in later) made;
}

-- ---- Commit

-- the record that is being written is the batch's, and all of it is written
pub can_commit : (s : State) (d : Disk) (m : meta.Meta) (b : OpenBatch) → IsKept s d → is_ready step.Commit d.depth s ≡ true
    → s.batch ≡ Some (batch_of b) → s.log ≡ m → CanCommit (contexts_of b.stage) m
can_commit s d m b kept ready batch log =
    let facts : ReadyCommit s (batch_of b) = known_commit s d (batch_of b) kept ready batch in
    let of_batch : HasRecord s (batch_of b) = known_batch s d (batch_of b) kept (ready_not_down s d.depth step.Commit refl ready) batch in
    subst (CanCommit (contexts_of b.stage)) log (record {
      writing = facts.writing;
      begun = facts.begun;
      ops = facts.ops;
      written = facts.written ∙ ap (λ (l : List RowOp). piece_count (unit_count s.log.number l)) (sym facts.ops);
      reserved = of_batch.needs;
    })

-- so its record is made
pub is_made : (s : State) (d : Disk) (b : OpenBatch) → IsKept s d → is_ready step.Commit d.depth s ≡ true → s.batch ≡ Some (batch_of b)
    → IsStageOf s.log.begun (Some b) → is_sealed b.stage ≡ true
is_made s d b kept ready batch stage = stage ∙ ap is_some (known_commit s d (batch_of b) kept ready batch).begun

-- the released units can come back
pub come_back : (s : State) (d : Disk) (b : OpenBatch) → IsKept s d → is_ready step.Commit d.depth s ≡ true → s.batch ≡ Some (batch_of b)
    → CanBeGiven (batch_released (batch_of b)) s.space
come_back s d b kept ready batch front rest u is = record {
  within = data_within s.log.sup (given s.space front) u (space_given s.log.sup s.space front kept.always.space) on;
  taken = back_in_turn s d kept up (batch_of b) batch front rest u is;
  fits = below u s.log.sup.units on.1 kept.always.limits.units_most;
}
  where
    up : s.down ≡ None
    up = ready_not_down s d.depth step.Commit refl ready

    on : IsDataUnit s.log.sup u
    on = back_data s d kept up (batch_of b) batch u
        (subst (λ (us : List ℕ). Contains us u) (sym is) (Contains-append_right front (u ∷ rest) u (Contains-head u rest)))

    below : (u units : ℕ) → u < units → units ≤ 1048576 → u + 1 < 2 ^ 32
    below u units lt most = omega (arith, lt, most)

pub commit_does : (s : State) (d : Disk) (m m' : meta.Meta) (b : OpenBatch) → s.batch ≡ Some (batch_of b) → s.log ≡ m
    → m' ≡ log_after (flushed_batch (contexts_of b.stage)) m
    → DoesCommit s d (record s { log = m'; batch = None; space = given s.space (batch_released (batch_of b)) }) d
commit_does s d m m' b batch log made = record {
  batch = batch_of b;
  begun = batch;
  same = refl;
  after =
      ap (λ (l : meta.Meta). let later : State = record s { log = l; batch = None; space = given s.space (batch_released (batch_of b)) } in later)
      (made ∙ ap (log_after (flushed_batch (contexts_of b.stage))) (sym log));
}

-- ---- Finish

pub next_commit : (s : State) (d : Disk) → IsKept s d → is_ready step.Finish d.depth s ≡ true → s.acked < length s.book.commits
next_commit s d kept ready = (known_finish s d kept ready).0

lt_suc : (i n : ℕ) → nat_lt (suc i) (suc n) ≡ nat_lt i n
lt_suc i n = elim (cases_lt i n) [
  | inl lt ↦ lt-ltb (suc i) (suc n) (omega (arith, lt)) ∙ sym (lt-ltb i n lt)
  | inr le ↦ le-ltb (suc i) (suc n) (omega (arith, le)) ∙ sym (le-ltb i n le)
]

-- the commit of the number of those acknowledged is the first that isn't
set_is_acknowledged : (events acked : ℕ) (cs : List Commit) (x : Commit) → AcksAre acked cs → acked < length cs → x ≡ get_or cs acked x
    → set cs acked (record { place = x.place; acked_at = Some events }) ≡ acknowledged events cs
set_is_acknowledged events acked [] x acks below is = absurd (omega arith)
set_is_acknowledged events zero (c ∷ cs) x acks below is =
    ap (λ (y : Commit). let later : Commit = record { place = y.place; acked_at = Some events } in later ∷ cs) is
    ∙ ap (λ (b : Bool). cond b (c ∷ acknowledged events cs) (record c { acked_at = Some events } ∷ cs)) (sym (acks 0))
set_is_acknowledged events (suc n) (c ∷ cs) x acks below is =
    ap (λ (l : List Commit). c ∷ l)
    (set_is_acknowledged events n cs x (λ j. IfSome_then (slice_get cs j) (acks (suc j)) (λ (y : Commit) p. p ∙ lt_suc j n)) (omega arith) is)
    ∙ ap (λ (b : Bool). cond b (c ∷ acknowledged events cs) (record c { acked_at = Some events } ∷ cs)) (sym (acks 0 ∙ lt-ltb 0 (suc n) (omega arith)))

pub finish_does : (s : State) (d : Disk) (x : Commit) → IsKept s d → is_ready step.Finish d.depth s ≡ true → x ≡ get_or s.book.commits s.acked x
    → DoesFinish s d (record s { book = record s.book { commits = set s.book.commits s.acked (record { place = x.place; acked_at = Some s.events }) }; acked = s.acked + 1 }) d
finish_does s d x kept ready is = record {
  same = refl;
  after = ap (λ (cs : List Commit). let later : State = record s { book = record s.book { commits = cs }; acked = s.acked + 1 } in later)
      (set_is_acknowledged s.events s.acked s.book.commits x kept.always.book.acks (next_commit s d kept ready) is);
}

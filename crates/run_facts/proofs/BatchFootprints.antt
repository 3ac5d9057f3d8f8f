-- The footprints of the steps of a batch: Take, Flush, Seal, Record, Sync; and of Finish.
use Rattle.std.proofs.Common.{◌≡◌, inl, inr, true, ℕ, ◌+◌, ◌-◌, ◌*◌, ◌≤◌, List, [], ◌∷◌, ◌++◌, length, Option, Some, None, refl, sym, ap, subst, ◌∙◌, arith, length-append, map, take}
use Rattle.run_facts.proofs.Common.{option_map_or, Disk, RowOp, unit_count, record_units, active_unit, piece_first, piece_units, given_from, LiesInRecord, Context, FreshUnit, Begun, Commit}
use Rattle.byte_maps.specs.Units.{units_from}
use Rattle.meta_log.proofs.PieceLemmas.{given_from-none}
use Rattle.log_facts.specs.Prelude.{not_sent}
use Rattle.store_steps.specs.declared.step.Step.TheVariants as step
use Rattle.store_steps.specs.Prelude.{Batch, State, batch_ops, finished, taken_up, choice, left_by, most_grouped, flush_sent, sync_sent, commit_of, acknowledged, is_ready, OpensBatch, DoesTake, DoesFlush, DoesSeal, DoesRecord, DoesSync, DoesFinish, piece_unit, begun_piece_bytes, uncommitted, all_fresh, given_fresh, begun_ops, submitted_from, second_flush, intents, is_in, data_part, half_part, book_part, Adds, nothing, flushes, on_half, Touch, IsPlaced, Footprint}
use Rattle.store_steps.specs.RowsGo as rows
use Rattle.store_steps.specs.DataGoes as units
use Rattle.store_steps.specs.HalfGoes as half
use Rattle.store_steps.specs.BookGoes as book
use Rattle.store_steps.specs.BookGoes.{commits_of}
use Rattle.switch_facts.specs.OtherGoes as other
use Rattle.flight_facts.proofs.Prelude.{seal_none, ready_not_down, ready_by_table, acknowledged_length, unsealed_second, record_second, sync_begun, ArePicked, picked, choice_done, all_picked, each_given}
use Rattle.flight_facts.specs.Prelude.{IsPartGiven}
use Rattle.run_facts.specs.Prelude.{IsKept}
use Rattle.run_facts.proofs.Conditions.{HasRecord, ReadyRecord, number_low, take_none}
use Rattle.run_facts.proofs.Known.{flush_covers, sync_covers, known_seal, known_record, piece_lies, piece_size}
use Rattle.run_facts.proofs.OtherHalf.{placed_elsewhere}
use Rattle.run_facts.proofs.SwitchFootprints.{begin_footprint}
use Rattle.run_facts.proofs.PartsKept.{book_alone, device_alone, given_both}
use Rattle.run_facts.proofs.CommitFootprint.{given_all}
use Rattle.run_facts.proofs.Choices.{picked_order, flat_picked}
use Rattle.std.specs.List.Sorted.{IsPermutation}
use Rattle.std.proofs.lemmas.List.{length-map}
use Rattle.selections.specs.Fair.{IsComplete}

-- the device has no part in it
pub rests : (d d' : Disk) → d' ≡ d → Adds nothing d d'
rests d d' same = (ap (λ (e : Disk). e.history) same, ap (λ (e : Disk). e.flights) same)

-- ---- Take

-- their commits are those of their intents
commits_are : (xs : List Context) → map commit_of xs ≡ commits_of (intents xs)
commits_are [] = refl
commits_are (x ∷ xs) = ap (λ (cs : List Commit). commit_of x ∷ cs) (commits_are xs)

-- as many are applied as before
pub part_taken : (s : State) → s.batch ≡ None → (let xs : List Context = choice most_grouped s.pending in book_part (taken_up s)
    ≡ record (book_part s) { book = record s.book { commits = s.book.commits ++ map commit_of xs }; batch = intents xs })
part_taken s none = ap (λ (n : ℕ). record (book_part s) {
  book = record s.book { commits = s.book.commits ++ map commit_of xs };
  applied = n;
  batch = intents xs;
})
    (less (length s.book.commits) (length xs) (length (s.book.commits ++ map commit_of xs))
    (length-append s.book.commits (map commit_of xs) ∙ ap (λ (n : ℕ). length s.book.commits + n) (length-map xs commit_of))
    ∙ ap (λ (o : Option Batch). length s.book.commits - option_map_or (λ (b : Batch). length b.contexts) o 0) (sym none))
  where
    xs : List Context
    xs = choice most_grouped s.pending

    less : (n more m : ℕ) → m ≡ n + more → m - more ≡ n - 0
    less n more m is = omega (arith, is)

module _ (s : State) (d : Disk) (kept : IsKept s d) (up : s.down ≡ None) (none : s.batch ≡ None) where
  abbrev ys : List Context
  ys = choice most_grouped s.pending

  abbrev left : List Context
  left = left_by most_grouped s.pending

  are : ArePicked s.pending ys left
  are = picked most_grouped s.pending (kept.up up).flights.places.ascend

  before : uncommitted s ≡ s.pending
  before = ap (λ (o : Option Batch). option_map_or (λ b. b.contexts) o [] ++ s.pending) none

  order : IsComplete is_in (intents (uncommitted s)) (intents (ys ++ left))
  order = subst (λ (xs : List Context). IsComplete is_in (intents xs) (intents (ys ++ left))) (sym before) (picked_order s.pending ys left are)

  given_first : given_fresh (ys ++ left) ≡ all_fresh ys ++ given_fresh left
  given_first = given_all ys left (each_given s.flying ys (choice_done most_grouped s.pending)
      (all_picked (IsPartGiven s.flying) s.pending ys left are (kept.up up).flights.waiting).0)

  given_turned : IsPermutation (given_fresh (uncommitted s)) (all_fresh ys ++ given_fresh left)
  given_turned = subst (λ (xs : List Context). IsPermutation (given_fresh xs) (all_fresh ys ++ given_fresh left)) (sym before)
      (subst (IsPermutation (given_fresh s.pending)) (sym (given_both ys left) ∙ given_first)
      (flat_picked (λ (x : Context). take x.given x.fresh) s.pending ys left are))

open_footprint : (s : State) (d : Disk) (s' : State) (d' : Disk) → IsKept s d → is_ready step.Take d.depth s ≡ true → OpensBatch s d s' d'
    → Footprint s d s' d'
open_footprint s d s' d' kept ready does =
    let up : s.down ≡ None = ready_not_down s d.depth step.Take refl ready in
    let none : s.batch ≡ None = (take_none s d.depth (ready_by_table s d.depth step.Take up ready)).0 in
    let ys : List Context = choice most_grouped s.pending in
    let left : List Context = left_by most_grouped s.pending in
    subst (λ (t : State). Footprint s d t d') (sym does.after) (record {
      touch = nothing;
      device = rests d d' does.same;
      placed = tt;
      counted = omega arith;
      rows = rows.reorders (intents (ys ++ left)) (order s d kept up none) refl;
      units = units.opens (all_fresh ys) (given_fresh left) (given_turned s d kept up none)
          (ap (λ (fs : List FreshUnit). record (data_part s) { given = fs; fresh = all_fresh ys; first = not_sent }) (given_first s d kept up none));
      half = half.same tt (ap (λ f. record (half_part s) { second = f }) (ap second_flush (sym none)));
      other = other.same tt refl;
      book = book.commits (intents ys) (ap (λ (o : Option Batch). intents (option_map_or (λ (b : Batch). b.contexts) o [])) none)
          (part_taken s none ∙ ap (λ (cs : List Commit). record (book_part s) {
            book = record s.book { commits = s.book.commits ++ cs };
            batch = intents ys;
          }) (commits_are ys));
      caused = record { ready = ready; does = inl (record { some = does.some; fits = does.fits; after = refl; same = does.same }) };
    })

pub take_footprint : (s : State) (d : Disk) (s' : State) (d' : Disk) → IsKept s d → is_ready step.Take d.depth s ≡ true → DoesTake s d s' d'
    → Footprint s d s' d'
take_footprint s d s' d' kept ready (inl batch) = open_footprint s d s' d' kept ready batch
take_footprint s d s' d' kept ready (inr check) = begin_footprint s d s' d' kept ready check

-- ---- the two flushes

pub flush_footprint : (s : State) (d : Disk) (s' : State) (d' : Disk) → IsKept s d → is_ready step.Flush d.depth s ≡ true → DoesFlush s d s' d'
    → Footprint s d s' d'
flush_footprint s d s' d' kept ready does =
    let b : Batch = does.batch in
    subst (λ (t : State). Footprint s d t d') (sym does.after)
    (subst (λ (o : Option Batch). (let t : State = record s { batch = o } in Footprint t d (flush_sent b does.ticket t) d')) (sym does.begun)
    (device_alone (record s { batch = Some b }) d _ d' (flushes does.ticket.place) does.submitted tt tt refl refl
    (units.flushes_batch does.ticket.place (flush_covers s d b kept ready does.begun) refl) (half.same tt refl) refl refl))

pub sync_footprint : (s : State) (d : Disk) (s' : State) (d' : Disk) → IsKept s d → is_ready step.Sync d.depth s ≡ true → DoesSync s d s' d'
    → Footprint s d s' d'
sync_footprint s d s' d' kept ready does =
    let b : Batch = does.batch in
    let up : s.down ≡ None = ready_not_down s d.depth step.Sync refl ready in
    let is = sync_begun s d.depth (ready_by_table s d.depth step.Sync up ready) in
    let second : second_flush (Some b) ≡ not_sent = ap second_flush (sym does.begun) ∙ is.0 in
    subst (λ (t : State). Footprint s d t d') (sym does.after)
    (subst (λ (o : Option Batch). (let t : State = record s { batch = o } in Footprint t d (sync_sent b does.ticket t) d')) (sym does.begun)
    (device_alone (record s { batch = Some b }) d _ d' (flushes does.ticket.place) does.submitted tt tt refl refl (units.same tt refl)
    (half.syncs does.ticket.place is.1.0.ops (ap begun_ops is.1.1) second (λ j low high. sync_covers s d is.1.0 j kept ready is.1.1 high) refl) refl refl))

-- ---- the record

pub seal_footprint : (s : State) (d : Disk) (s' : State) (d' : Disk) → IsKept s d → is_ready step.Seal d.depth s ≡ true → DoesSeal s d s' d'
    → Footprint s d s' d'
seal_footprint s d s' d' kept ready does =
    let ops : List RowOp = batch_ops does.batch in
    let r : HasRecord s does.batch = known_seal s d does.batch kept ready does.begun in
    let up : s.down ≡ None = ready_not_down s d.depth step.Seal refl ready in
    let none : s.log.begun ≡ None = seal_none s d.depth (ready_by_table s d.depth step.Seal up ready) in
    let second : second_flush s.batch ≡ not_sent = unsealed_second s d.flights (kept.up up).flights none in
    subst (λ (t : State). Footprint s d t d') (sym does.after) (device_alone s d _ d' nothing (rests d d' does.same) tt tt (omega arith) refl (units.same tt refl)
    (half.begins ops (ap begun_ops none) (record { number_below = number_low s d kept.always; body_below = r.body; fit = r.fit }) r.room
    (ap (λ (n : ℕ). record (half_part s) { begun = Some ops; from = n }) (given_from-none (unit_count s.log.number ops))
    ∙ ap (λ f. record (half_part s) { begun = Some ops; from = unit_count s.log.number ops; second = f }) second)) refl refl)

-- where the next piece lies
module _ (s : State) (d : Disk) (r : Begun) (lying : LiesInRecord (unit_count s.log.number r.ops) r.given) where
  abbrev count : ℕ
  count = unit_count s.log.number r.ops

  abbrev from : ℕ
  from = given_from count (r.given + 1)

  piece_place : piece_unit s.log r ≡ active_unit s.log.sup + s.log.tail + from
  piece_place = ap (λ (n : ℕ). active_unit s.log.sup + s.log.tail + n) lying.begins

  piece_cut : begun_piece_bytes s.log.number r ≡ units_from from (given_from count r.given - from) (record_units s.log.number r.ops)
  piece_cut = ap (λ (n : ℕ). units_from n (piece_units count r.given) (record_units s.log.number r.ops)) lying.begins
      ∙ ap (λ (n : ℕ). units_from from n (record_units s.log.number r.ops))
      (rest (piece_first count r.given) (piece_units count r.given) from (given_from count r.given) lying.begins lying.ends)
    where
      rest : (first count from end : ℕ) → first ≡ from → first + count ≡ end → count ≡ end - from
      rest first count from end begins ends = omega (arith, begins, ends)

  piece_earlier : from ≤ given_from count r.given
  piece_earlier = lower (piece_first count r.given) (piece_units count r.given) from (given_from count r.given) lying.begins lying.ends
    where
      lower : (first count from end : ℕ) → first ≡ from → first + count ≡ end → from ≤ end
      lower first count from end begins ends = omega (arith, begins, ends)

  piece_in_half : s.log.tail + count ≤ s.log.sup.half → length (begun_piece_bytes s.log.number r) ≡ 4096 * piece_units count r.given
      → 4096 * piece_unit s.log r + length (begun_piece_bytes s.log.number r) ≤ 4096 * (active_unit s.log.sup + s.log.sup.half)
  piece_in_half room size = inside (active_unit s.log.sup) s.log.tail (piece_first count r.given) (piece_units count r.given) count s.log.sup.half
      (length (begun_piece_bytes s.log.number r)) lying.within room size
    where
      inside : (active tail first count units half size : ℕ) → first + count ≤ units → tail + units ≤ half → size ≡ 4096 * count
          → 4096 * (active + tail + first) + size ≤ 4096 * (active + half)
      inside active tail first count units half size within room is = omega (arith, within, room, is)

pub record_footprint : (s : State) (d : Disk) (s' : State) (d' : Disk) → IsKept s d → is_ready step.Record d.depth s ≡ true → DoesRecord s d s' d'
    → Footprint s d s' d'
record_footprint s d s' d' kept ready does =
    let r : Begun = does.writing in
    let up : s.down ≡ None = ready_not_down s d.depth step.Record refl ready in
    let known : ReadyRecord s r = known_record s d r kept ready does.begun in
    let lying : LiesInRecord (unit_count s.log.number r.ops) r.given = piece_lies s d r kept ready does.begun in
    let piece : Touch = on_half does.ticket.place (piece_unit s.log r) (begun_piece_bytes s.log.number r) in
    let placed : IsPlaced s.log.sup piece = (omega (arith, piece_place s d r lying), piece_in_half s d r lying known.room (piece_size s d r kept ready does.begun)) in
    subst (λ (t : State). Footprint s d t d') (sym does.after) (record {
      touch = piece;
      device = does.submitted;
      placed = placed;
      counted = refl;
      rows = rows.same refl;
      units = units.same tt refl;
      half = half.gives_piece does.ticket.place (piece_unit s.log r) (begun_piece_bytes s.log.number r) (record {
        ops = r.ops;
        begun = ap begun_ops does.begun;
        second = record_second s d.flights d.depth r (kept.up up).flights (ready_by_table s d.depth step.Record up ready) does.begun;
        from = from s d r lying;
        earlier = subst (λ (n : ℕ). from s d r lying ≤ n) (sym (ap (submitted_from s.log.number) does.begun)) (piece_earlier s d r lying);
        place = piece_place s d r lying;
        cut = piece_cut s d r lying
            ∙ ap (λ (n : ℕ). units_from (from s d r lying) (n - from s d r lying) (record_units s.log.number r.ops)) (sym (ap (submitted_from s.log.number) does.begun));
        then = ap (λ o. record (half_part s) { begun = o; from = from s d r lying }) (sym (ap begun_ops does.begun));
      });
      other = other.same (placed_elsewhere s.log.sup piece tt placed) refl;
      book = book.same refl;
      caused = tt;
    })

-- ---- Finish

pub finish_footprint : (s : State) (d : Disk) (s' : State) (d' : Disk) → is_ready step.Finish d.depth s ≡ true → DoesFinish s d s' d'
    → Footprint s d s' d'
finish_footprint s d s' d' ready does = subst (λ (t : State). Footprint s d t d') (sym does.after)
    (book_alone s d (finished s) d' (rests d d' does.same) refl refl refl refl refl
    (book.acknowledges (ap (λ (n : ℕ). record (book_part s) {
      book = record s.book { commits = acknowledged s.events s.book.commits };
      acked = s.acked + 1;
      applied = n - option_map_or (λ (b : Batch). length b.contexts) s.batch 0;
    }) (acknowledged_length s.events s.book.commits)))
    (record { ready = ready; does = record { after = refl; same = does.same } }))

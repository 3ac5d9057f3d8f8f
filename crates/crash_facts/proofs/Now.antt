-- A crash now leaves the objects after a front of the commits: after the applied ones, or, once the record of the open batch was given to
-- the device, perhaps after all.
use Rattle.std.proofs.Common.{◌≡◌, ℕ, zero, suc, ◌+◌, ◌-◌, ◌<◌, ◌≤◌, List, [], length, Option, Some, None}
use Rattle.std.proofs.Common.{slice_get, is_some, nat_lt}
use Rattle.std.proofs.Common.{refl, sym, ap, subst, ◌∙◌, arith}
use Rattle.std.specs.Prelude.{IfSome, IsSomeAnd}
use Rattle.std.proofs.lemmas.Bool.{ltb-true}
use Rattle.std.proofs.lemmas.List.{take_all}
use Rattle.byte_maps.specs.Units.{IsUnits}
use Rattle.block_device.specs.Prelude.{last, Disk, History}
use Rattle.object_model.specs.Prelude.{Objects, replay, committed, IsAckedBy, HasAcked}
use Rattle.object_model.specs.declared.book.Commit.{Commit}
use Rattle.meta_rows.specs.declared.row_op.RowOp.{RowOp}
use Rattle.meta_rows.specs.Prelude.{Rows, rows_after}
use Rattle.meta_log.specs.Prelude.{unit_count, given_from, width_of}
use Rattle.meta_log.proofs.PieceLemmas.{given_from-none}
use Rattle.store_image.specs.Prelude.{IsExactBut, IsLeakedIn, LeavesPrefix}
use Rattle.log_facts.specs.Prelude.{flushed, SoundFor}
use Rattle.log_facts.proofs.Cuts.{cut_stands}
use Rattle.switch_facts.specs.Prelude.{CheckPart}
use Rattle.switch_facts.proofs.Steps.{known_as}
use Rattle.switch_facts.proofs.Cuts.{cut_of_check}
use Rattle.unit_facts.proofs.Calls.{half_while_checking}
use Rattle.store_steps.specs.declared.flight.FlushState.{FlushState}
use Rattle.meta_store.specs.Store.{Begun, Meta}
use Rattle.store_steps.specs.Prelude.{Batch, State, applied_count, uncommitted, all_fresh, flush_of, begun_ops, submitted_from, second_flush, other_part, intents}
use Rattle.run_facts.specs.Prelude.{AcksAre, IsKept}
use Rattle.run_facts.proofs.Prelude.{batch_written, given_flushed, some_units}
use Rattle.book_facts.specs.Prelude.{applied_changes, changes_of}
use Rattle.book_facts.proofs.Prelude.{applied_committed, batch_last}
use Rattle.unit_facts.specs.DataUnits.{UnitsAreFlushed, BatchUnitsAreFlushed}
use Rattle.crash_facts.specs.Store.{contents_at, KnownOfStore}
use Rattle.crash_facts.proofs.Exact.{IsOfBatch, rows_exact, batch_first, begun_of, kept_begun}
use Rattle.crash_facts.proofs.Fronts.{front_sound}

-- ---- sizes and acknowledgements

pub start_size : (s : State) (d : Disk) (h : History) → IsKept s d → d.history ≡ Some h → IsUnits s.log.sup.units h.start
start_size s d h kept told = subst (λ (n : ℕ). IsUnits n h.start) (sym kept.always.units)
    (subst (λ o. IfSome o (λ k. IsUnits d.units k.start)) told kept.always.device.size)

pub size_now : (s : State) (d : Disk) (h : History) → IsKept s d → d.history ≡ Some h → IsUnits s.log.sup.units (last h.start h.log)
size_now s d h kept told = subst (λ (n : ℕ). IsUnits n (last h.start h.log)) (sym kept.always.units)
    (subst (λ o. IfSome o (λ k. IsUnits d.units (last k.start k.log))) told kept.always.device.size_now)

-- the acknowledged commits are among so many
acked_within : (base cut acked count : ℕ) (commits : List Commit) → AcksAre acked commits → acked ≤ count → HasAcked base cut commits count
acked_within base cut acked count commits acks within i = of_commit (slice_get commits i) (acks i)
  where
    of_time : (o : Option ℕ) → is_some o ≡ nat_lt i acked → IsSomeAnd o (λ a. base + a ≤ cut) → i < count
    of_time None is some = absurd some
    of_time (Some a) is some = let below : i < acked = ltb-true i acked (sym is) in omega (arith, below, within)

    of_commit : (o : Option Commit) → IfSome o (λ c. is_some c.acked_at ≡ nat_lt i acked) → IfSome o (λ c. IsAckedBy base cut c → i < count)
    of_commit None p = tt
    of_commit (Some c) p = of_time c.acked_at p

-- ---- the committed rows, and with the record that was given to the device

module _ (base : ℕ) (opening : Objects) (s : State) (d : Disk) (h : History) (kept : IsKept s d) (up : s.down ≡ None)
    (known : KnownOfStore base opening s d h) where
  pub rows_sound : SoundFor h s.log.sup s.log.rows (replay opening (applied_changes s))
  rows_sound = front_sound s d kept up [] (uncommitted s) refl h tt known.units.held (replay opening (applied_changes s)) s.book.entries known.stand
      tt known.units.clean

  -- the commits of the batch come last
  all_commits : (b : Batch) → s.batch ≡ Some b → replay (replay opening (applied_changes s)) (changes_of s.book.entries (intents b.contexts))
      ≡ replay opening (committed s.book.entries s.book.commits)
  all_commits b is =
      sym (applied_committed opening s b (intents b.contexts) (batch_last opening s b is known.book))
      ∙ ap (λ (l : List Commit). replay opening (committed s.book.entries l)) (take_all (length s.book.commits - 0) s.book.commits (omega arith))

  -- the units of its contexts are flushed once a piece of its record was given
  batch_flushed : (b : Batch) (r : Begun) → s.batch ≡ Some b → s.log.begun ≡ Some r → 0 < r.given → UnitsAreFlushed h flushed (all_fresh b.contexts)
  batch_flushed b r is begun some =
      subst (λ (f : FlushState). UnitsAreFlushed h (flush_of f) (all_fresh b.contexts)) (given_flushed s d b r (kept.up up) is begun some)
      (subst (BatchUnitsAreFlushed h) is known.units.flushed)

  -- once all of the record was given a crash may leave the rows with it, which are sound for the objects after all commits
  pub begun_sound : (ops : List RowOp) → begun_ops s.log.begun ≡ Some ops → submitted_from s.log.number s.log.begun ≡ 0
      → SoundFor h s.log.sup (rows_after s.log.rows ops) (replay opening (committed s.book.entries s.book.commits))
  begun_sound ops is given =
      let of : IsOfBatch s ops = begun_of s d ops kept up is in
      let b : Batch = of.batch in
      let before : Objects = replay opening (applied_changes s) in
      subst (SoundFor h s.log.sup (rows_after s.log.rows ops)) (all_commits b of.is_open)
      (subst (λ (rows : Rows). SoundFor h s.log.sup rows (replay before (changes_of s.book.entries (intents b.contexts)))) of.rows
      (front_sound s d kept up b.contexts s.pending (batch_first s b of.is_open) h (batch_written s d b (kept.up up) of.is_open)
      known.units.held before s.book.entries known.stand
      (batch_flushed b of.writing of.is_open of.begun
      (some_given of.writing (subst (λ (o : Option Begun). submitted_from s.log.number o ≡ 0) of.begun given))) known.units.clean))
    where
      some_given : (r : Begun) → given_from (unit_count s.log.number r.ops) r.given ≡ 0 → 0 < r.given
      some_given r none = of_given r.given none
        where
          of_given : (given : ℕ) → given_from (unit_count s.log.number r.ops) given ≡ 0 → 0 < given
          of_given zero none = absurd (omega (
            arith,
            sym (given_from-none (unit_count s.log.number r.ops)) ∙ none,
            some_units s.log.number r.ops,
          ))
          of_given (suc n) none = omega arith

-- ---- a crash now

pub now_stands : (base : ℕ) (opening : Objects) (s : State) (d : Disk) (h : History) → IsKept s d → s.down ≡ None → KnownOfStore base opening s d h
    → LeavesPrefix base h.start opening s.book h.log
now_stands base opening s d h kept up known = of_check (other_part s).check refl
  where
    m : Meta
    m = s.log

    acked : HasAcked base (length h.log) s.book.commits (applied_count s)
    acked = acked_within base (length h.log) s.acked (applied_count s) s.book.commits kept.always.book.acks kept.always.book.within

    exact : IsExactBut (width_of m.sup) (IsLeakedIn (contents_at base h)) m.rows
    exact = rows_exact (width_of m.sup) (IsLeakedIn (contents_at base h)) m.rows (intents (uncommitted s)) known.exact

    of_check : (o : Option CheckPart) → (other_part s).check ≡ o → LeavesPrefix base h.start opening s.book h.log
    of_check None is =
        cut_stands h m.sup m.rows m.tail m.number (begun_ops m.begun) (submitted_from m.number m.begun) (second_flush s.batch) known.units.half.recs
        base opening s.book (applied_count s) (start_size s d h kept known.units.told) (size_now s d h kept known.units.told)
        (known_as h (other_part s) None is known.units.other).0 known.units.half.stands (omega arith) acked (rows_sound base opening s d h kept up known)
        (begun_sound base opening s d h kept up known) exact (kept_begun (IsLeakedIn (contents_at base h)) s d kept up known.exact)
    of_check (Some c) is =
        cut_of_check h (other_part s) (submitted_from m.number m.begun) (second_flush s.batch) known.units.half.recs base opening s.book (applied_count s)
        (start_size s d h kept known.units.told) (size_now s d h kept known.units.told) known.units.other c is
        (half_while_checking s d h kept up known.units c is) (omega arith) acked (rows_sound base opening s d h kept up known) exact

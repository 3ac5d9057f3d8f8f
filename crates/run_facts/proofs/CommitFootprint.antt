-- The footprint of Commit.
use Rattle.std.proofs.Common.{◌≡◌, ◌≤◌, true, ℕ, ◌+◌, ◌-◌, List, [], ◌∷◌, ◌++◌, length, Option, Some, None, refl, sym, ap, subst, ◌∙◌, append_assoc, arith}
use Rattle.run_facts.proofs.Common.{AllByRecursion, Disk, RowOp, rows_after, given, unit_count, given_from, Context, FreshUnit}
use Rattle.std.proofs.lemmas.List.{take_all}
use Rattle.meta_log.proofs.PieceLemmas.{given_from-all}
use Rattle.store_steps.specs.declared.step.Step.TheVariants as step
use Rattle.store_steps.specs.Prelude.{Batch, State, batch_ops, batch_released, sum_needs, log_after, check_pieces, other_check, other_part, committed_batch, is_ready, DoesCommit, all_fresh, given_fresh, begun_ops, submitted_from, Intent, intents, ops_by, released_by, needs_by, RowsPart, rows_part, nothing, Footprint}
use Rattle.store_steps.specs.RowsGo as rows
use Rattle.store_steps.specs.DataGoes as units
use Rattle.store_steps.specs.HalfGoes as half
use Rattle.store_steps.specs.BookGoes as book
use Rattle.meta_log.specs.declared.runs.UnitRun.{UnitRun}
use Rattle.switch_facts.specs.Prelude.{CheckPart}
use Rattle.switch_facts.specs.OtherGoes as other
use Rattle.flight_facts.specs.Prelude.{IsAllGiven}
use Rattle.flight_facts.proofs.Prelude.{ready_not_down, ready_by_table, IsSynced, ready_synced, no_switch}
use Rattle.run_facts.specs.Prelude.{IsKept}
use Rattle.run_facts.proofs.Conditions.{HasRecord, ReadyCommit, needs_are}
use Rattle.run_facts.proofs.Known.{known_commit, known_batch}
use Rattle.run_facts.proofs.PartsKept.{flat_intents, intents_both}
use Rattle.run_facts.proofs.SwitchFootprints.{none_open}

-- all units of written contexts are given
pub given_all : (xs ys : List Context) → AllByRecursion IsAllGiven xs → given_fresh (xs ++ ys) ≡ all_fresh xs ++ given_fresh ys
given_all [] ys all = refl
given_all (x ∷ xs) ys all =
    ap (λ (fs : List FreshUnit). fs ++ given_fresh (xs ++ ys)) (take_all x.given x.fresh (omega (arith, (all.0).given)))
    ∙ ap (λ (fs : List FreshUnit). x.fresh ++ fs) (given_all xs ys all.1)
    ∙ sym (append_assoc x.fresh (all_fresh xs) (given_fresh ys))

module _ (s : State) (b : Batch) (number : ℕ) where
  -- the rows
  abbrev front : List Intent
  front = intents b.contexts

  rows_then : (let t : State = record s { batch = Some b } in rows_part (committed_batch b t)
      ≡ rows.applied s.log.number front (intents s.pending) (rows_part t))
  rows_then =
      let released : batch_released b ≡ released_by front = sym (flat_intents (λ x. x.released) b.contexts) in
      let needs : sum_needs b.contexts ≡ needs_by front = sym (needs_are b.contexts) in
      let p : RowsPart = rows_part s in
      ap (λ (ops : List RowOp). record p {
        rows = rows_after p.rows ops;
        intents = intents s.pending;
        space = given p.space (batch_released b);
        tail = p.tail + unit_count s.log.number ops;
        reserved = p.reserved - sum_needs b.contexts;
      }) (sym (flat_intents (λ x. x.ops) b.contexts))
      ∙ ap (λ (us : List ℕ). record p {
        rows = rows_after p.rows (ops_by front);
        intents = intents s.pending;
        space = given p.space us;
        tail = p.tail + unit_count s.log.number (ops_by front);
        reserved = p.reserved - sum_needs b.contexts;
      }) released
      ∙ ap (λ (n : ℕ). record p {
        rows = rows_after p.rows (ops_by front);
        intents = intents s.pending;
        space = given p.space (released_by front);
        tail = p.tail + unit_count s.log.number (ops_by front);
        reserved = p.reserved - n;
      }) needs

-- no checkpoint is written while a batch is open
no_check : (s : State) (d : Disk) (b : Batch) → IsKept s d → s.down ≡ None → s.batch ≡ Some b → (pieces : List UnitRun)
    → other_check pieces s.log.check s.switching ≡ None
no_check s d b kept up is pieces =
    ap (other_check pieces s.log.check) (no_switch s d.flights b (kept.up up).flights is) ∙ none_open pieces s.log.check

pub commit_footprint : (s : State) (d : Disk) (s' : State) (d' : Disk) → IsKept s d → is_ready step.Commit d.depth s ≡ true → DoesCommit s d s' d'
    → Footprint s d s' d'
commit_footprint s d s' d' kept ready does =
    let b : Batch = does.batch in
    let up : s.down ≡ None = ready_not_down s d.depth step.Commit refl ready in
    let r : ReadyCommit s b = known_commit s d b kept ready does.begun in
    let has : HasRecord s b = known_batch s d b kept up does.begun in
    let is : IsSynced b = ready_synced s d.flights d.depth b (kept.up up).flights (ready_by_table s d.depth step.Commit up ready) does.begun in
    let begun : begun_ops s.log.begun ≡ Some (batch_ops b) = ap begun_ops r.begun ∙ ap (λ (ops : List RowOp). Some ops) r.ops in
    let from : submitted_from s.log.number s.log.begun ≡ 0 =
    ap (submitted_from s.log.number) r.begun ∙ ap (λ (ops : List RowOp). given_from (unit_count s.log.number ops) r.writing.given) r.ops
    ∙ ap (given_from (unit_count s.log.number (batch_ops b))) r.given ∙ given_from-all (unit_count s.log.number (batch_ops b)) in
    subst (λ (t : State). Footprint s d t d') (sym does.after)
    (subst (λ (o : Option Batch). (let t : State = record s { batch = o } in Footprint t d (committed_batch b t) d')) (sym does.begun) (record {
      touch = nothing;
      device = (ap (λ (e : Disk). e.history) does.same, ap (λ (e : Disk). e.flights) does.same);
      placed = tt;
      counted = omega arith;
      rows = rows.applies s.log.number (intents b.contexts) (intents s.pending) (intents_both b.contexts s.pending) (
        needed (unit_count s.log.number (batch_ops b)) _ (sum_needs b.contexts) _ has.needed
            (ap (unit_count s.log.number) (flat_intents (λ x. x.ops) b.contexts)) (needs_are b.contexts),
        subst (λ (ops : List RowOp). s.log.tail + unit_count s.log.number ops ≤ s.log.sup.half) (sym (flat_intents (λ x. x.ops) b.contexts)) has.room,
      ) (rows_then s b s.log.number);
      units = units.retires (given_fresh s.pending) is.first (given_all b.contexts s.pending is.written) refl;
      half = half.moves_on (batch_ops b) begun from is.second refl;
      other = other.commits (log_after b s.log).rows (log_after b s.log).tail (log_after b s.log).number
          (no_check s d b kept up does.begun (check_pieces s.log))
          (ap (λ (c : Option CheckPart). record (other_part s) {
            rows = (log_after b s.log).rows;
            tail = (log_after b s.log).tail;
            number = (log_after b s.log).number;
            check = c;
          }) (no_check s d b kept up does.begun (check_pieces (log_after b s.log)) ∙ sym (no_check s d b kept up does.begun (check_pieces s.log))));
      book = book.applies (length s.book.commits - 0) (omega arith) refl;
      caused = record {
        ready = subst (λ (o : Option Batch). is_ready step.Commit d.depth (record s { batch = o }) ≡ true) does.begun ready;
        does = record { batch = b; begun = refl; after = refl; same = does.same };
      };
    }))
  where
    needed : (units units' needs needs' : ℕ) → units ≤ needs → units' ≡ units → needs' ≡ needs → units' ≤ needs'
    needed units units' needs needs' le one two = omega (arith, le, one, two)

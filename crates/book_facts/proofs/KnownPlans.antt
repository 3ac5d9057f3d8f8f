-- What is known of the plan of an accepted transaction.
use Rattle.std.proofs.Common.{ℕ, Contains, refl}
use Rattle.run_facts.proofs.Common.{Disk, IsSuper, width_of, Change, names_of, free_units, Plan, IsGood, PlansKeep, IsKnown}
use Rattle.store_image.specs.Prelude.{IsMarked}
use Rattle.plan_drafts.specs.Prelude.{fresh_units, Suits, PlanKeeps, PlanMakes, PlanTakes}
use Rattle.plan_rows.proofs.Agreeing.{agree_itself}
use Rattle.store_steps.specs.Prelude.{State, Accepts, rows_part}
use Rattle.run_facts.specs.Prelude.{IsKept, IsSpaceOf, AreRowsKept}
use Rattle.run_facts.proofs.Prelude.{submitted_good, submitted_free, accepted_keeps, accepted_makes, accepted_takes}
use Rattle.book_facts.proofs.Commits.{all_then}

-- The submitted rows are good and suit the plan, and it keeps, makes and takes what plans do.
pub record IsKnownPlan (s : State) (change : Change) (plan : Plan) : Type 0 where
  pub good : IsGood s.log.sup s.submitted
  pub suits : Suits (width_of s.log.sup) (names_of change) s.submitted plan s.submitted
  pub keeps : PlanKeeps s.log.sup (names_of change) s.submitted plan
  pub makes : PlanMakes s.log.sup change s.submitted plan
  pub takes : PlanTakes s.space s.next_sbid change s.submitted plan

pub known_plan : PlansKeep → (s : State) (d : Disk) (client line : ℕ) (change : Change) (s' : State) → IsKept s d → IsKnown change.ops
    → (does : Accepts client line change s d s') → IsKnownPlan s change does.plan
known_plan plans s d client line change s' kept known does =
    let limits : IsSuper s.log.sup = kept.always.limits in
    let space : IsSpaceOf s.log.sup s.space = kept.always.space in
    let rows : AreRowsKept (rows_part s) = (kept.up does.can_note.up).rows in
    let takes : PlanTakes s.space s.next_sbid change s.submitted does.plan = accepted_takes plans s d client line change s' limits space rows known does in
    record {
      good = submitted_good s limits space rows;
      suits = record {
        agree = agree_itself (width_of s.log.sup) (names_of change) s.submitted;
        blobs = λ sbid changes. refl;
        unmarked = all_then (λ u. Contains (free_units s.space) u) (λ u. ¬ IsMarked s.submitted u) (fresh_units does.plan)
            (λ u free. ((submitted_free s limits space rows).free u free).2) takes.free;
      };
      keeps = accepted_keeps plans s d client line change s' limits space rows known does;
      makes = accepted_makes plans s d client line change s' limits space rows known does;
      takes = takes;
    }

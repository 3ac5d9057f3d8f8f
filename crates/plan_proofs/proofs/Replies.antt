-- Which reply a transaction gets, by the draft that its operations lead to.
use Rattle.std.proofs.Common.{◌≡◌, ℕ, true, false, cond, List, Option, Err, ap, is_ok}
use Rattle.std.specs.Prelude.{IsOk}
use Rattle.std.specs.FinMap as map
use Rattle.meta_rows.specs.Prelude.{Rows}
use Rattle.meta_log.specs.declared.slot.Super.{Super}
use Rattle.meta_log.specs.Prelude.{width_of}
use Rattle.object_model.specs.declared.op.Refusal.{Refusal}
use Rattle.object_model.specs.declared.op.Refusal.TheVariants.{TooBig}
use Rattle.object_model.specs.Prelude.{Objects, Change, transaction_effect, submitted_effect, is_too_large}
use Rattle.unit_fields.specs.Prelude.{IsCollName}
use Rattle.store_image.specs.Prelude.{NoBadRow, IsShape}
use Rattle.plan_drafts.specs.Prelude.{Layout, CollDraft, AreTaken, AreRefused, Begins}
use Rattle.plan_proofs.proofs.DraftStart.{reached_first, matches_first}
use Rattle.plan_proofs.proofs.EditFacts.{the_edit_laws, the_length_law}
use Rattle.plan_proofs.proofs.Matches.{all_lead, all_refused, transaction_lead, transaction_refused}

-- ---- the size of the transaction

module _ (change : Change) (objects : Objects) where
  pub large_submitted : is_too_large change ≡ true → submitted_effect change objects ≡ Err TooBig
  large_submitted is = ap (λ b. cond b (Err TooBig) (transaction_effect change objects)) is

  pub small_submitted : is_too_large change ≡ false → submitted_effect change objects ≡ transaction_effect change objects
  small_submitted is = ap (λ b. cond b (Err TooBig) (transaction_effect change objects)) is

-- ---- its operations

module _ (s : Super) (rows : Rows) (objects : Objects) (change : Change) (layouts : List ℕ → Option Layout) (start : CollDraft) (good : NoBadRow s rows)
    (coll : IsCollName change.coll) (begins : Begins (width_of s) rows change.coll layouts start) (shape : IsShape rows objects) where
  pub refused_by : (refusal : Refusal) → AreRefused change.ops start refusal → transaction_effect change objects ≡ Err refusal
  refused_by refusal are = transaction_refused change objects refusal
      (all_refused the_edit_laws the_length_law layouts change.ops start (map.get objects change.coll) refusal are
      (reached_first s rows good change.coll coll layouts start begins)
      (matches_first s rows good change.coll coll layouts start begins objects shape))

  pub taken_by : AreTaken change.ops start → IsOk (transaction_effect change objects)
  taken_by are =
      let all = all_lead the_edit_laws the_length_law layouts change.ops start (map.get objects change.coll) are
      (reached_first s rows good change.coll coll layouts start begins)
      (matches_first s rows good change.coll coll layouts start begins objects shape) in
      ap is_ok (transaction_lead change objects all.then all.effect_is)

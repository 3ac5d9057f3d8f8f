-- The first operations of a transaction, and the next one.
use Rattle.std.proofs.Common.{◌≡◌, ℕ, zero, suc, ◌+◌, ◌<◌, List, [], ◌∷◌, ◌++◌, length, take, drop, refl, sym, ap, ◌∙◌, arith, append_assoc}
use Rattle.object_model.specs.declared.op.Op.{Op}
use Rattle.object_model.specs.declared.op.Refusal.{Refusal}
use Rattle.plan_rows.specs.declared.plan.ReadUnit.{ReadUnit}
use Rattle.plan_drafts.specs.Prelude.{Held, places_on, CollDraft, with_op, with_ops, places_of, held_after, held_by, IsTaken, AreTaken, IsRefused, AreRefused, here, later}
use Rattle.page_edits.specs.Writes.{op_at}

-- the next one stands behind the first n
pub one_more : (n : ℕ) (ops : List Op) → n < length ops → take (n + 1) ops ≡ take n ops ++ op_at ops n ∷ []
one_more n [] lt = absurd (omega (arith, lt))
one_more zero (op ∷ ops) lt = refl
one_more (suc n) (op ∷ ops) lt =
    let e : suc n + 1 ≡ suc (n + 1) = omega arith in
    ap (λ k. take k (op ∷ ops)) e ∙ ap (λ (l : List Op). op ∷ l) (one_more n ops (omega (arith, lt)))

pub whole_list : (n : ℕ) (ops : List Op) → n < length ops → ops ≡ take n ops ++ op_at ops n ∷ drop (n + 1) ops
whole_list n [] lt = absurd (omega (arith, lt))
whole_list zero (op ∷ ops) lt = refl
whole_list (suc n) (op ∷ ops) lt =
    let e : suc (n + 1) ≡ suc n + 1 = omega arith in
    ap (λ (l : List Op). op ∷ l) (whole_list n ops (omega (arith, lt)))
    ∙ ap (λ k. take (suc n) (op ∷ ops) ++ op_at (op ∷ ops) (suc n) ∷ drop k (op ∷ ops)) e

pub all_taken : (ops : List Op) → take (length ops) ops ≡ ops
all_taken [] = refl
all_taken (op ∷ ops) = ap (λ (l : List Op). op ∷ l) (all_taken ops)

module _ (op : Op) where
  pub draft_next : (ops : List Op) (d : CollDraft) → with_ops (ops ++ op ∷ []) d ≡ with_op op (with_ops ops d)
  draft_next [] d = refl
  draft_next (x ∷ ops) d = draft_next ops (with_op x d)

  pub taken_next : (ops : List Op) (d : CollDraft) → AreTaken ops d → IsTaken (with_ops ops d) op → AreTaken (ops ++ op ∷ []) d
  taken_next [] d are is = (is, tt)
  taken_next (x ∷ ops) d are is = (are.0, taken_next ops (with_op x d) are.1 is)

  pub places_next : (ops : List Op) (d : CollDraft)
      → places_of (ops ++ op ∷ []) d ≡ places_of ops d ++ places_on op (with_ops ops d)
  places_next [] d = append_none (places_on op d)
    where
      append_none : {X : Type 0} (xs : List X) → xs ++ [] ≡ xs
      append_none [] = refl
      append_none (x ∷ xs) = ap (λ l. x ∷ l) (append_none xs)
  places_next (x ∷ ops) d = ap (λ ps. places_on x d ++ ps) (places_next ops (with_op x d))
      ∙ sym (append_assoc (places_on x d) (places_of ops (with_op x d))
      (places_on op (with_ops ops (with_op x d))))

  pub held_next : (read : List ReadUnit) (ops : List Op) (d : CollDraft) (held : Held)
      → held_by read (ops ++ op ∷ []) d held ≡ held_after read op (with_ops ops d) (held_by read ops d held)
  held_next read [] d held = refl
  held_next read (x ∷ ops) d held = held_next read ops (with_op x d) (held_after read x d held)

  pub refused_next : (ops rest : List Op) (d : CollDraft) (refusal : Refusal) → AreTaken ops d → IsRefused (with_ops ops d) op refusal
      → AreRefused (ops ++ op ∷ rest) d refusal
  refused_next [] rest d refusal are is = here op rest d refusal is
  refused_next (x ∷ ops) rest d refusal are is =
      later x (ops ++ op ∷ rest) d refusal are.0 (refused_next ops rest (with_op x d) refusal are.1 is)

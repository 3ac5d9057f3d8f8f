use Rattle.std.proofs.Common.{arith, ◌∙◌, sym, ap, refl, ◌++◌, ◌+◌, List, ℕ, [], ◌∷◌}
use Rattle.arrayvec.specs.ArrayVec.{ArrayVec, array_vec_len}
use Rattle.client_runs.specs.Clients.{is_able}
use Rattle.client_runs.proofs.ClientLemmas.{able_on, able_off}
use Rattle.client_runs.proofs.clients.able_now.Goals as goal
use Rattle.client_runs.proofs.clients.able_now.Goals.{then-is_able, else-is_able}

pub loop-number-preserved : goal.loop-number-preserved
loop-number-preserved c = elim c.if-is_able.branch [
  | then-is_able w ↦ record {
    so_far = ap (λ (v : ArrayVec ℕ). v.items) w.able-is
        ∙ (w.push.ensures.items
        ∙ (ap (λ (l : List ℕ). l ++ (c.loop-number.number ∷ [])) c.loop-number.invariant.so_far
        ∙ sym (able_on c.loop-number.number (c.loop-number.number + 1) c.args.all.now c.index-all-number.result c.loop-number-test.true refl
        (ap is_able (sym c.index-all-number.is) ∙ (sym c.is_able.ensures ∙ w.if-is_able.true)))));
    room = omega (arith, ap (λ (v : ArrayVec ℕ). array_vec_len v) w.able-is, w.push.ensures.len, c.loop-number.invariant.room);
  }
  | else-is_able w ↦ record {
    so_far = ap (λ (v : ArrayVec ℕ). v.items) w.able-is
        ∙ (c.loop-number.invariant.so_far
        ∙ sym (able_off c.loop-number.number (c.loop-number.number + 1) c.args.all.now c.index-all-number.result c.loop-number-test.true refl
        (ap is_able (sym c.index-all-number.is) ∙ (sym c.is_able.ensures ∙ w.if-is_able.false))));
    room = omega (arith, ap (λ (v : ArrayVec ℕ). array_vec_len v) w.able-is, c.loop-number.invariant.room);
  }
]

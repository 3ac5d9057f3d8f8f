use Rattle.std.proofs.Common.{◌++◌, [], ◌∷◌, length, refl, ap, sym, subst, ◌∙◌, arith}
use Rattle.std.specs.FinMap as finite
use Rattle.std.specs.Vec.Iter.{into_iter_items}
use Rattle.row_changes.specs.Log.{op_unless_same, ops_of, lasts, ChangesRise}
use Rattle.row_changes.proofs.Sorted.{held_all, no_items, next_put, last_put, none_put}
use Rattle.row_changes.proofs.difference.put_lasts.Goals.{in-Some-held+in_ok-put, in_default}
use Rattle.row_changes.specs.Ahead.{LieAhead, LieAheadOf}
use Rattle.row_changes.proofs.Ahead.{ahead_next, rise_next}
use Rattle.row_changes.proofs.difference.put_lasts.Goals as goal

pub loop-change-init : goal.loop-change-init
loop-change-init c =
    let h = c.into_iter-change-iterator.ensures.into_iter_gives in
    record {
      can_next = tt;
      finite = tt;
      count = omega (arith, h.1, ap length h.0, c.args.sorted.ok.0);
      rise = subst ChangesRise (sym h.0) c.requires;
      ahead = refl;
      ops = λ i. c.new-ops.ensures i ++ ops_of c.args.rows.now.rows (lasts ((h.0 i)));
    }

pub loop-change-preserved : goal.loop-change-preserved
loop-change-preserved c =
    let rows = c.args.rows.now.rows in
    let s = c.in-Some.ensures.steps in
    let rest = into_iter_items c.next.new.self in
    let ops = c.loop-change.ops in
    let held = c.loop-change.held in
    let later = rise_next held c.in-Some.change rest (subst (λ xs. ChangesRise (held_all held ++ xs)) s.0 c.loop-change.invariant.rise) in
    record {
      can_next = tt;
      finite = tt;
      count = omega (arith, s.1, ap length s.0, c.loop-change.invariant.count);
      rise = later.1;
      ahead = ahead_next rows c.put_before.new.ahead held c.in-Some.change later.0 c.in_ok-put_before.ensures.ahead;
      ops = ap (λ l. l ++ ops_of rows (lasts ((c.in-Some.change ∷ rest)))) c.in_ok-put_before.ensures.ops
          ∙ next_put rows ops held c.in-Some.change rest
          ∙ ap (λ xs. ops ++ ops_of rows (lasts (held_all held ++ xs))) (sym s.0)
          ∙ c.loop-change.invariant.ops;
    }

pub returns : goal.returns
returns c =
    let rows = c.args.rows.now.rows in
    let ops = c.loop-change.ops in
    let held = c.loop-change.held in
    let none = no_items (into_iter_items c.loop-change.change-iterator) (omega (arith, c.in-None.ensures.steps.0, c.loop-change.invariant.count)) in
    let rest = ap (λ xs. ops ++ ops_of rows (lasts (held_all held ++ xs))) (sym none) ∙ c.loop-change.invariant.ops in
    elim c.match-held.branch [
      | in-Some-held+in_ok-put w ↦ w.ops-is ∙ w.in_ok-put.ensures ∙ ap (λ held. ops ++ op_unless_same held w.in-Some-held.last) w.last_value_of-value.ensures
          ∙ ap (λ key. ops ++ op_unless_same (finite.get rows key) w.in-Some-held.last) w.as_slice.ensures ∙ last_put rows ops w.in-Some-held.last
          ∙ ap (λ h. ops ++ ops_of rows (lasts (held_all h ++ []))) (sym w.in-Some-held.is) ∙ rest
      | in_default w ↦ w.ops-is ∙ none_put rows ops held w.in_default.is ∙ rest
    ]

pub last_value_of-value-requires : goal.last_value_of-value-requires
last_value_of-value-requires c =
    let rows = c.args.rows.now.rows in
    let ahead = c.loop-change.ahead in
    subst (LieAhead rows ahead) (sym c.as_slice.ensures) (subst (LieAheadOf rows ahead) c.in-Some-held.is c.loop-change.invariant.ahead)

pub put_before-requires : goal.put_before-requires
put_before-requires c = c.loop-change.invariant.ahead

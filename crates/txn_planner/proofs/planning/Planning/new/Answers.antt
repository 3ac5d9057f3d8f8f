use Rattle.std.proofs.Common.{ℕ, List, Contains, Option, is_some, refl, sym, ap, subst, ◌∙◌}
use Rattle.std.specs.Prelude.{unwrap_or}
use Rattle.std.specs.FinMap as finite
use Rattle.byte_maps.specs.ByteMap.{byte_order}
use Rattle.plan_drafts.specs.Prelude.{value_key}
use Rattle.txn_planner.proofs.Firsts.{none_left}
use Rattle.txn_planner.proofs.planning.Planning.new.Goals as goal

pub returns-clause-state : goal.returns-clause-state
returns-clause-state c width layouts = record {
  there = c.in_ok-there.ensures;
  touched = λ o t is. absurd (let e = sym (ap (λ m. finite.get m o) c.new.ensures ∙ finite.get-empty byte_order o) ∙ is in cc);
  untouched = λ o name is. refl;
  of_values = λ key is. absurd (let e = sym (ap (λ (m : _). is_some (finite.get m key)) c.new-2.ensures ∙ ap (λ (x : Option (Option (List ℕ))). is_some x) (finite.get-empty byte_order key)) ∙ is in cc);
  values = λ o k name is.
      let key : List ℕ = value_key c.args.coll.now o k in
      ap (λ x. unwrap_or x (finite.get c.args.rows.now.rows key)) (ap (λ m. finite.get m key) c.new-2.ensures ∙ finite.get-empty byte_order key);
  taken = refl;
  left = λ unit.
      let all = none_left width c.args.rows.now.rows c.args.coll.now layouts unit in (
        λ k. all.0 (subst (λ us. Contains us unit) c.new-5.ensures.items k),
        λ l. subst (λ us. Contains us unit) (sym c.new-5.ensures.items) (all.1 l),
      );
  unshared = c.new-6.ensures.items;
}

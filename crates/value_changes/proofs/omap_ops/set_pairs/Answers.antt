use Rattle.std.proofs.Common.{◌≡◌, [], drop, sym, ap, subst, ◌∙◌, arith}
use Rattle.std.specs.List.{AllByRecursion}
use Rattle.std.proofs.lemmas.List.{drop_all}
use Rattle.object_model.specs.declared.op.Pair.{Pair}
use Rattle.unit_fields.specs.Prelude.{IsName}
use Rattle.value_changes.proofs.Named.{with_pairs, pairs_set}
use Rattle.value_changes.proofs.omap_ops.set_pairs.Goals as goal

pub returns-clause-names : goal.returns-clause-names
returns-clause-names c =
    let pairs = c.args.pairs.now in
    let none : drop c.loop-pair.pair-index pairs ≡ [] = drop_all c.loop-pair.pair-index pairs (omega (arith, c.loop-pair-test.false, c.loop-pair.auto.pair-index-end)) in
    c.loop-pair.invariant.named (subst (AllByRecursion (λ (p : Pair). IsName p.key)) (sym none) tt)

pub returns-clause-changed : goal.returns-clause-changed
returns-clause-changed c rows =
    let coll = c.args.coll.now in
    let o = c.args.object.now in
    let pairs = c.args.pairs.now in
    let new = c.loop-pair.changes in
    let none : drop c.loop-pair.pair-index pairs ≡ [] = drop_all c.loop-pair.pair-index pairs (omega (arith, c.loop-pair-test.false, c.loop-pair.auto.pair-index-end)) in
    pairs_set rows coll o c.names_are_names.ensures pairs c.args.changes.now new
    (c.loop-pair.invariant.named (subst (AllByRecursion (λ (p : Pair). IsName p.key)) (sym none) tt))
    (ap (λ ps. with_pairs coll o ps new) (sym none) ∙ c.loop-pair.invariant.set)

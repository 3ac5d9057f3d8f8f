use Rattle.std.proofs.Common.{◌≡◌, [], drop, sym, ap, subst, ◌∙◌, arith}
use Rattle.std.specs.List.{AllByRecursion}
use Rattle.std.proofs.lemmas.List.{drop_all}
use Rattle.unit_fields.specs.Prelude.{IsName}
use Rattle.value_changes.proofs.Named.{without_keys, keys_gone}
use Rattle.value_changes.proofs.omap_ops.rm_keys.Goals as goal

pub returns-clause-names : goal.returns-clause-names
returns-clause-names c =
    let keys = c.args.keys.now in
    let none : drop c.loop-key.key-index keys ≡ [] = drop_all c.loop-key.key-index keys (omega (arith, c.loop-key-test.false, c.loop-key.auto.key-index-end)) in
    c.loop-key.invariant.named (subst (AllByRecursion (IsName)) (sym none) tt)

pub returns-clause-changed : goal.returns-clause-changed
returns-clause-changed c rows =
    let coll = c.args.coll.now in
    let o = c.args.object.now in
    let keys = c.args.keys.now in
    let new = c.loop-key.changes in
    let none : drop c.loop-key.key-index keys ≡ [] = drop_all c.loop-key.key-index keys (omega (arith, c.loop-key-test.false, c.loop-key.auto.key-index-end)) in
    keys_gone rows coll o c.names_are_names.ensures keys c.args.changes.now new
    (c.loop-key.invariant.named (subst (AllByRecursion IsName) (sym none) tt))
    (ap (λ ks. without_keys coll o ks new) (sym none) ∙ c.loop-key.invariant.gone)

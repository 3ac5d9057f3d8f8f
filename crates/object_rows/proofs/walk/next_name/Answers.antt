use Rattle.std.proofs.Common.{ℕ, List, sym, subst, ◌∙◌}
use Rattle.std.specs.Option.{option_copied}
use Rattle.read_facts.specs.Prelude.{IsObject, IsNextOf}
use Rattle.onode_codec.specs.Fronts.{objects_first, objects_end}
use Rattle.object_rows.specs.NextKeys.{IsLeastKey, HasNoKey}
use Rattle.object_rows.proofs.NamesNext.{next_onode, no_onode}
use Rattle.object_rows.proofs.walk.next_name.Goals as goal

pub object_in-requires : goal.object_in-requires
object_in-requires c =
    let rows = c.args.rows.now.rows in
    let coll = c.args.coll.now in
    let after = option_copied c.args.after in
    let first = c.as_slice.ensures ∙ c.in_ok-first.ensures.key in
    let end = c.as_slice-2.ensures ∙ c.in_ok-end.ensures.key in
    let least : IsLeastKey rows (objects_first coll after) (objects_end coll) c.in-Some.key.now =
    subst (λ (k : List ℕ). IsLeastKey rows k (objects_end coll) c.in-Some.key.now) first
    (subst (λ (k : List ℕ). IsLeastKey rows c.as_slice.result.now k c.in-Some.key.now) end c.in-Some.ensures) in
    let n = next_onode c.requires.sup rows c.requires.good coll c.objects_end.ensures.coll after c.objects_first.ensures.named c.in-Some.key.now
    least in
    (coll, n.name, c.objects_end.ensures.coll, n.next.is.named, n.is)

pub returns-in-Some : goal.returns-in-Some
returns-in-Some c =
    let rows = c.args.rows.now.rows in
    let coll = c.args.coll.now in
    let after = option_copied c.args.after in
    let first = c.as_slice.ensures ∙ c.in_ok-first.ensures.key in
    let end = c.as_slice-2.ensures ∙ c.in_ok-end.ensures.key in
    let least : IsLeastKey rows (objects_first coll after) (objects_end coll) c.in-Some.key.now =
    subst (λ (k : List ℕ). IsLeastKey rows k (objects_end coll) c.in-Some.key.now) first
    (subst (λ (k : List ℕ). IsLeastKey rows c.as_slice.result.now k c.in-Some.key.now) end c.in-Some.ensures) in
    let n = next_onode c.requires.sup rows c.requires.good coll c.objects_end.ensures.coll after c.objects_first.ensures.named c.in-Some.key.now
    least in
    subst (IsNextOf (IsObject rows coll) after)
    (sym (c.in_ok-object_in-in-Some.ensures coll n.name c.objects_end.ensures.coll n.next.is.named n.is)) n.next

pub returns : goal.returns
returns c =
    let rows = c.args.rows.now.rows in
    let coll = c.args.coll.now in
    let after = option_copied c.args.after in
    let first = c.as_slice.ensures ∙ c.in_ok-first.ensures.key in
    let end = c.as_slice-2.ensures ∙ c.in_ok-end.ensures.key in
    no_onode c.requires.sup rows c.requires.good coll c.objects_end.ensures.coll after c.objects_first.ensures.named
    (subst (λ (k : List ℕ). HasNoKey rows k (objects_end coll)) first
    (subst (λ (k : List ℕ). HasNoKey rows c.as_slice.result.now k) end c.in-None.ensures))

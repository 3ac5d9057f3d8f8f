use Rattle.std.proofs.Common.{ℕ, List, sym, subst, ◌∙◌}
use Rattle.std.specs.Option.{option_copied}
use Rattle.read_facts.specs.Prelude.{IsCollection, IsNextOf}
use Rattle.onode_codec.specs.Fronts.{colls_first, colls_end}
use Rattle.object_rows.specs.NextKeys.{IsLeastKey, HasNoKey}
use Rattle.object_rows.proofs.NamesNext.{next_coll, no_coll}
use Rattle.object_rows.proofs.walk.next_collection.Goals as goal

pub coll_in-requires : goal.coll_in-requires
coll_in-requires c =
    let rows = c.args.rows.now.rows in
    let after = option_copied c.args.after in
    let least : IsLeastKey rows (colls_first after) colls_end c.in-Some.key.now =
    subst (λ (k : List ℕ). IsLeastKey rows k colls_end c.in-Some.key.now) (c.as_slice.ensures ∙ c.in_ok-first.ensures) c.in-Some.ensures in
    let n = next_coll c.requires.sup rows c.requires.good after c.in-Some.key.now least in
    (n.name, n.next.is.named, n.is)

pub returns-in-Some : goal.returns-in-Some
returns-in-Some c =
    let rows = c.args.rows.now.rows in
    let after = option_copied c.args.after in
    let least : IsLeastKey rows (colls_first after) colls_end c.in-Some.key.now =
    subst (λ (k : List ℕ). IsLeastKey rows k colls_end c.in-Some.key.now) (c.as_slice.ensures ∙ c.in_ok-first.ensures) c.in-Some.ensures in
    let n = next_coll c.requires.sup rows c.requires.good after c.in-Some.key.now least in
    subst (IsNextOf (IsCollection rows) after) (sym (c.in_ok-coll_in-in-Some.ensures n.name n.is)) n.next

pub returns : goal.returns
returns c =
    let rows = c.args.rows.now.rows in
    let after = option_copied c.args.after in
    no_coll c.requires.sup rows c.requires.good after
    (subst (λ (k : List ℕ). HasNoKey rows k colls_end) (c.as_slice.ensures ∙ c.in_ok-first.ensures) c.in-None.ensures)

use Rattle.std.proofs.Common.{◌≡◌, true, false, List, sym, subst, ap, ◌∙◌}
use Rattle.std.specs.List.{AllByRecursion}
use Rattle.std.proofs.lemmas.Result.{on_ok_weaker}
use Rattle.row_format.specs.Prelude.{Extent, shard_in}
use Rattle.onode_codec.specs.Reading.{SpellExtents}
use Rattle.row_check.specs.Owned.{TellsShard}
use Rattle.row_check.specs.Tallies.{HasPlaces, extents_tallied}
use Rattle.row_check.proofs.Counted.{spelled_extents}
use Rattle.row_check.proofs.counts.name_row.Goals as goal

pub name_all-requires : goal.name_all-requires
name_all-requires c =
    let told : TellsShard c.args.width c.args.key.now c.args.value.now true =
    subst (TellsShard c.args.width c.args.key.now c.args.value.now) c.if-not-is_shard.false (c.is_shard.ensures c.args.width) in
    let spelled : SpellExtents c.args.width c.args.value.now c.in-Some.extents.items = rw c.in-Some.is at c.in_ok-extents.ensures in
    let row = c.requires.spelled in
    let same = spelled_extents c.args.width c.args.key.now c.args.value.now c.in-Some.extents.items row.0 told spelled row.1 in
    subst (λ (l : List Extent). AllByRecursion (λ e. HasPlaces c.args.tallies.now e.body) l) (sym (c.deref.ensures.value ∙ same)) (c.requires.places row.0 row.1)

pub returns-in-Some : goal.returns-in-Some
returns-in-Some c =
    let told : TellsShard c.args.width c.args.key.now c.args.value.now true =
    subst (TellsShard c.args.width c.args.key.now c.args.value.now) c.if-not-is_shard.false (c.is_shard.ensures c.args.width) in
    let spelled : SpellExtents c.args.width c.args.value.now c.in-Some.extents.items = rw c.in-Some.is at c.in_ok-extents.ensures in
    on_ok_weaker c.name_all.result (λ is row s. is ∙ ap (extents_tallied c.args.tallies.now)
    (c.deref.ensures.value ∙ spelled_extents c.args.width c.args.key.now c.args.value.now c.in-Some.extents.items row told spelled s)) c.name_all.ensures

use Rattle.std.proofs.Common.{◌<◌, ◌∙◌, Some, refl, ap, sym, length, arith, rules}
use Rattle.page_lookup.specs.Prelude.{size_in, place_found}
use Rattle.page_lookup.proofs.Fronts.{none_read, hole_before, below, has_place, place_is}
use Rattle.page_lookup.proofs.shard.place_at_front.Goals as goal

pub returns-in_default : goal.returns-in_default
returns-in_default c =
    let few : length c.args.bytes.now < size_in c.args.width c.args.bytes.now = search rules in
    sym (ap (λ es. place_found es c.args.page) (none_read c.args.width c.args.bytes.now few))

pub returns-then-page-head : goal.returns-then-page-head
returns-then-page-head c = sym (hole_before c.args.width c.args.bytes.now c.in-Some.head c.args.page c.in-Some.ensures.some (search rules))

pub place_by_head-requires-clause-few : goal.place_by_head-requires-clause-few
place_by_head-requires-clause-few c =
    let lt = below c.args.width c.args.bytes.now c.in-Some.head c.args.page c.in-Some.ensures.some (search rules) c.requires.reaches in
    omega (arith, lt, c.in-Some.ensures.some.count)

pub place_by_head-requires-clause-has : goal.place_by_head-requires-clause-has
place_by_head-requires-clause-has c =
    has_place c.args.width c.args.bytes.now c.in-Some.head c.args.page c.in-Some.ensures.some (search rules) c.requires.reaches
    c.requires.number c.in-Some.head.start refl

pub returns : goal.returns
returns c =
    ap Some c.place_by_head.ensures
    ∙ sym (place_is c.args.width c.args.bytes.now c.in-Some.head c.args.page c.in-Some.ensures.some (search rules) c.requires.reaches
    c.in-Some.head.start refl)

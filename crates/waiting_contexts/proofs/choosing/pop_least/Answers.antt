use Rattle.waiting_contexts.proofs.ChoiceLemmas.{pops_beside, pops_hand}
use Rattle.waiting_contexts.proofs.choosing.pop_least.Goals as goal

pub returns-then-not-is_at_hand : goal.returns-then-not-is_at_hand
returns-then-not-is_at_hand c =
    pops_beside c.pop.result c.args.hand.now c.args.beside.now c.args.back.now c.pop.new.self c.pop.ensures.least c.pop.ensures.rest c.pop.ensures.length
    c.pop.ensures.room (c.is_at_hand.ensures.beside c.if-not-is_at_hand.true) (c.is_at_hand.ensures.none c.if-not-is_at_hand.true)

pub returns : goal.returns
returns c =
    pops_hand c.in-Some.place c.args.hand.now c.args.beside.now c.args.back.now c.pop-2.new.self c.push.new.self c.in-Some.ensures.least c.in-Some.ensures.rest
    c.in-Some.ensures.length c.in-Some.ensures.room c.push.ensures.places c.push.ensures.length c.push.ensures.room
    (c.is_at_hand.ensures.at_hand c.if-not-is_at_hand.false c.in-Some.place c.in-Some.ensures.least)

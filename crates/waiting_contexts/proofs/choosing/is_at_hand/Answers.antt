use Rattle.std.proofs.Common.{◌≤◌, arith}
use Rattle.std.proofs.lemmas.Bool.{leb-true, leb-false}
use Rattle.waiting_contexts.proofs.HeadCounts.{is_counted}
use Rattle.waiting_contexts.proofs.ChoiceLemmas.{lower_all}
use Rattle.waiting_contexts.proofs.choosing.is_at_hand.Goals as goal

pub returns-clause-at_hand : goal.returns-clause-at_hand
returns-clause-at_hand c = λ yes p least.
    let below : p ≤ c.in-Some.here = is_counted c.in-Some.here c.args.hand.now.places p least.least c.in-Some.ensures.among in
    lower_all p c.in-Some-first.there c.args.beside.now.places (omega (arith, below, leb-true c.in-Some.here c.in-Some-first.there yes)) c.in-Some-first.ensures.least

pub returns-clause-beside : goal.returns-clause-beside
returns-clause-beside c = λ no p least.
    let below : p ≤ c.in-Some-first.there = is_counted c.in-Some-first.there c.args.beside.now.places p least.least c.in-Some-first.ensures.among in
    lower_all p c.in-Some.here c.args.hand.now.places (omega (arith, below, leb-false c.in-Some.here c.in-Some-first.there no)) c.in-Some.ensures.least

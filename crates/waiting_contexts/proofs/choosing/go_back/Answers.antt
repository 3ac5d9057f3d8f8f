use Rattle.std.proofs.Common.{arith}
use Rattle.waiting_contexts.proofs.ChoiceLemmas.{one_back}
use Rattle.waiting_contexts.proofs.choosing.go_back.Goals as goal

pub loop-place-preserved : goal.loop-place-preserved
loop-place-preserved c =
    let popped = c.in-Some.ensures.length in
    let pushed = c.push.ensures.length in
    let room = c.push.ensures.room in
    let fits = c.loop-place.invariant.fits in
    let grown = c.loop-place.invariant.room in
    record {
      kept = one_back c.in-Some.place _ c.loop-place.back.places c.loop-place.hand.places c.pop.new.self.places c.push.new.self.places
          c.loop-place.invariant.kept c.in-Some.ensures.rest c.push.ensures.places;
      fits = omega (arith, popped, pushed, room, fits);
      room = omega (arith, room, grown);
    }

use Rattle.std.proofs.Common.{◌+◌, ◌-◌, ◌/◌, ◌<◌, length, subst, sym, ◌≡◌, ℕ, arith}
use Rattle.op_sequencer.proofs.TurnLemmas.{AreNotBelow, more_below, more_not_below, stands_at}
use Rattle.op_sequencer.proofs.sequencer.index_of.Goals as goal

pub loop-low-preserved-then-index-place : goal.loop-low-preserved-then-index-place
loop-low-preserved-then-index-place c =
    let mid = c.loop-low.low + (c.loop-low.high - c.loop-low.low) / 2 in
    let within : mid < length c.args.turns.now.items = omega arith in
    record {
      order = omega arith;
      within = c.loop-low.invariant.within;
      below = more_below c.args.place mid c.args.turns.now.items c.index.result.now c.requires.ascend within (rw (← c.index.ensures) c.if-index-place.true);
      rest = c.loop-low.invariant.rest;
    }

pub loop-low-preserved : goal.loop-low-preserved
loop-low-preserved c =
    let mid = c.loop-low.low + (c.loop-low.high - c.loop-low.low) / 2 in
    let within : mid < length c.args.turns.now.items = omega arith in
    record {
      order = omega arith;
      within = omega arith;
      below = c.loop-low.invariant.below;
      rest = more_not_below c.args.place mid c.args.turns.now.items c.index.result.now c.requires.ascend within (rw (← c.index.ensures) c.if-index-place.false);
    }

pub returns : goal.returns
returns c =
    let met : c.loop-low.low ≡ c.loop-low.high = omega arith in
    stands_at c.args.place 0 c.loop-low.low c.args.turns.now.items c.requires.ascend c.requires.there c.loop-low.invariant.below
    (subst (λ (n : ℕ). AreNotBelow c.args.place n c.args.turns.now.items) (sym met) c.loop-low.invariant.rest)

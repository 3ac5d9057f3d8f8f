use Rattle.std.proofs.Common.{arith}
use Rattle.log_replay.proofs.CallLemmas.{ended}
use Rattle.log_replay.proofs.calls.wait.Goals as goal

pub returns-in-Some-clause-ended : goal.returns-in-Some-clause-ended
returns-in-Some-clause-ended g c = ended (g.D.Device.disk c.args.dev.now) _ _ _ _ _ _ c.requires c.waiting.invariant.0 c.in-Some.ensures.done

pub unreachable-requires : goal.unreachable-requires
unreachable-requires g c = omega (arith, c.waiting.invariant.2 (omega (arith, c.waiting-test.false)), c.waiting-test.false)

use Rattle.std.proofs.Common.{ap, sym, arith}
use Rattle.run_texts.specs.Prelude.{stop_number}
use Rattle.run_texts.proofs.TextLemmas.{stopped_is}
use Rattle.run_texts.proofs.texts.stopped_text.Goals as goal

pub returns-in-BadScript : goal.returns-in-BadScript
returns-in-BadScript c = sym (stopped_is c.args.stop 2 (ap stop_number c.in-BadScript.is) (omega arith))

pub returns-in-DeviceFault : goal.returns-in-DeviceFault
returns-in-DeviceFault c = sym (stopped_is c.args.stop 3 (ap stop_number c.in-DeviceFault.is) (omega arith))

pub returns-in-Refused : goal.returns-in-Refused
returns-in-Refused c = sym (stopped_is c.args.stop 4 (ap stop_number c.in-Refused.is) (omega arith))

pub returns-in-OutOfMemory : goal.returns-in-OutOfMemory
returns-in-OutOfMemory c = sym (stopped_is c.args.stop 5 (ap stop_number c.in-OutOfMemory.is) (omega arith))

pub returns-in-BayFault : goal.returns-in-BayFault
returns-in-BayFault c = sym (stopped_is c.args.stop 7 (ap stop_number c.in-BayFault.is) (omega arith))

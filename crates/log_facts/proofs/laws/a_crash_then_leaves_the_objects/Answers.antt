use Rattle.log_facts.proofs.Found.{objects_left}
use Rattle.log_facts.proofs.laws.a_crash_then_leaves_the_objects.Goals as goal

pub returns : goal.returns
returns c = objects_left

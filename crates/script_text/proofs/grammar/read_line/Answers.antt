use Rattle.std.proofs.Common.{rules, ◌≡◌}
use Rattle.std.specs.Prelude.{codes}
use Rattle.script_text.proofs.Forms.{wait_line}
use Rattle.script_text.proofs.grammar.read_line.Goals as goal

pub returns-in-None : goal.returns-in-None
returns-in-None c = let is : c.args.text.now ≡ codes "wait" = search rules in rw c.wait.ensures (wait_line c.args.text.now is)

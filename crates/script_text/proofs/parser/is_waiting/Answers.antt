use Rattle.std.proofs.Common.{false}
use Rattle.script_text.proofs.Scripts.{last_line}
use Rattle.script_text.proofs.parser.is_waiting.Goals as goal

pub returns-in-Some : goal.returns-in-Some
returns-in-Some c =
    rw c.is_wait.ensures (last_line false c.args.lines.now c.in-Some.line.now c.in-Some.ensures.value)

use Rattle.std.proofs.Common.{Err, ap, ◌∙◌}
use Rattle.script_text.specs.declared.fail.ScriptFail.{ScriptFail}
use Rattle.script_reading.proofs.ScriptLemmas.{has_script, one_source, script_fails}
use Rattle.script_reading.proofs.reading.read_one.Goals as goal

pub returns-in-Ok-lines-clause-lines : goal.returns-in-Ok-lines-clause-lines
returns-in-Ok-lines-clause-lines g c =
    has_script _ _ _ _ c.in-Ok-lines.lines.items c.in-Ok-lines.ensures.lines (c.as_str.ensures ∙ c.get-name.ensures) c.in-Ok.ensures.ok.text

pub returns-in-Err-lines-clause-cause : goal.returns-in-Err-lines-clause-cause
returns-in-Err-lines-clause-cause g c =
    rw c.unread.ensures (script_fails c.in-Err-lines.fail c.args.script _ c.args.names.now _ _ _ _ _ _ _ c.in-Err-lines.ensures.bad
    (λ is. c.in-Err-lines.ensures.cause (ap (λ (e : ScriptFail). Err e) is)) c.in-Err-lines.ensures.kept c.in-Ok.ensures.kept
    c.in-Ok.ensures.ok.no_faults (c.as_str.ensures ∙ c.get-name.ensures) c.in-Ok.ensures.ok.text
    (one_source g.B.Src.Source.faults _ _ _ _ c.push_reserved.ensures.items c.requires.before))

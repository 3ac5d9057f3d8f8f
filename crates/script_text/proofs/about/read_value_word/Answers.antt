use Rattle.std.proofs.Common.{rules, ◌≢◌}
use Rattle.std.specs.Prelude.{codes}
use Rattle.script_text.proofs.AboutForms.{no_value_word}
use Rattle.script_text.proofs.about.read_value_word.Goals as goal

pub returns-else-is_text-3 : goal.returns-else-is_text-3
returns-else-is_text-3 c =
    let no_rmattr : c.args.text.now ≢ codes "rmattr" = search rules in
    let no_getattr : c.args.text.now ≢ codes "getattr" = search rules in
    let no_omapget : c.args.text.now ≢ codes "omapget" = search rules in
    no_value_word c.args.text.now no_rmattr no_getattr no_omapget

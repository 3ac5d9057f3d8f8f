use Rattle.std.proofs.Common.{rules, ◌≢◌}
use Rattle.std.specs.Prelude.{codes}
use Rattle.script_text.proofs.AboutForms.{no_later_line}
use Rattle.script_text.proofs.values.read_value_words.Goals as goal

pub returns : goal.returns
returns c same what line =
    let no_setattr : c.args.word.now ≢ codes "setattr" = search rules in
    let no_omapset : c.args.word.now ≢ codes "omapset" = search rules in
    let no_omaprm : c.args.word.now ≢ codes "omaprm" = search rules in
    let no_omaprmrange : c.args.word.now ≢ codes "omaprmrange" = search rules in
    let no_omapheader : c.args.word.now ≢ codes "omapheader" = search rules in
    no_later_line c.args.word.now c.args.rest.now what c.requires.one c.requires.later no_setattr no_omapset no_omaprm no_omaprmrange no_omapheader line

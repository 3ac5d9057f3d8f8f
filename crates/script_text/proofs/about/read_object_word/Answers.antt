use Rattle.std.proofs.Common.{rules, ◌≢◌}
use Rattle.std.specs.Prelude.{codes}
use Rattle.script_text.proofs.AboutForms.{no_object_word}
use Rattle.script_text.proofs.about.read_object_word.Goals as goal

pub returns-else-is_text-7 : goal.returns-else-is_text-7
returns-else-is_text-7 c =
    let no_touch : c.args.text.now ≢ codes "touch" = search rules in
    let no_remove : c.args.text.now ≢ codes "remove" = search rules in
    let no_rmattrs : c.args.text.now ≢ codes "rmattrs" = search rules in
    let no_omapclear : c.args.text.now ≢ codes "omapclear" = search rules in
    let no_sum : c.args.text.now ≢ codes "sum" = search rules in
    let no_stat : c.args.text.now ≢ codes "stat" = search rules in
    let no_omaphdr : c.args.text.now ≢ codes "omaphdr" = search rules in
    no_object_word c.args.text.now no_touch no_remove no_rmattrs no_omapclear no_sum no_stat no_omaphdr

use Rattle.std.proofs.Common.{rules, ◌≢◌}
use Rattle.std.specs.Prelude.{codes}
use Rattle.script_text.proofs.AboutForms.{no_coll_word}
use Rattle.script_text.proofs.about.read_coll_word.Goals as goal

pub returns-else-is_text-3 : goal.returns-else-is_text-3
returns-else-is_text-3 c =
    let no_mkcoll : c.args.text.now ≢ codes "mkcoll" = search rules in
    let no_rmcoll : c.args.text.now ≢ codes "rmcoll" = search rules in
    let no_list : c.args.text.now ≢ codes "list" = search rules in
    no_coll_word c.args.text.now no_mkcoll no_rmcoll no_list

use Rattle.std.proofs.Common.{◌≡◌, rules, ap, ap₂, ◌∙◌}
use Rattle.std.proofs.lemmas.Result.{IfOk-weaker}
use Rattle.clap.specs.Words.{App, app_of, with_subcommand}
use Rattle.command_words.specs.Table.{program}
use Rattle.command_words.proofs.table.commands.Goals as goal

pub returns : goal.returns
returns c =
    let begun : app_of c.arg_required_else_help.result ≡ program = search rules in
    let one = c.in_ok-subcommand.ensures.shape c.in_ok-mkfs.ensures.1 ∙ ap₂ with_subcommand begun (ap (λ (a : App). a.top) c.in_ok-mkfs.ensures.0) in
    let two = c.in_ok-subcommand-2.ensures.shape c.in_ok-step.ensures.1 ∙ ap₂ with_subcommand one (ap (λ (a : App). a.top) c.in_ok-step.ensures.0) in
    let three = c.in_ok-subcommand-3.ensures.shape c.in_ok-dump.ensures.1 ∙ ap₂ with_subcommand two (ap (λ (a : App). a.top) c.in_ok-dump.ensures.0) in
    IfOk-weaker c.subcommand-4.result _ _
    (λ m h. h.shape c.in_ok-fsck.ensures.1 ∙ ap₂ with_subcommand three (ap (λ (a : App). a.top) c.in_ok-fsck.ensures.0)) c.subcommand-4.ensures

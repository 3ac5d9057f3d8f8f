use Rattle.std.proofs.Common.{sym}
use Rattle.run_texts.specs.Prelude.{reply_lines, end_lines}
use Rattle.run_texts.proofs.TextLemmas.{as_text-append}
use Rattle.run_texts.proofs.Adding.{both, said}
use Rattle.run_texts.proofs.step_texts.push_step.Goals as goal

pub returns : goal.returns
returns g c =
    let book = c.args.book.now in
    said (sym (as_text-append (reply_lines book) (end_lines book c.args.end.now)))
    (both c.push_replies.ensures c.push_end.ensures)

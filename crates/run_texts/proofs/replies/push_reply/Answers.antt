use Rattle.std.proofs.Common.{ap, sym}
use Rattle.object_model.specs.declared.command.Answer.{Answer}
use Rattle.run_texts.specs.Prelude.{reply_text}
use Rattle.run_texts.proofs.Adding.{said}
use Rattle.run_texts.proofs.replies.push_reply.Goals as goal

pub returns-in-MetaFull : goal.returns-in-MetaFull
returns-in-MetaFull g c =
    said (ap (λ (a : Answer). reply_text c.args.acked c.args.entry.now.command a) (sym c.in-MetaFull.is)) c.push_two-in-MetaFull.ensures

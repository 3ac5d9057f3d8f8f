use Rattle.run_texts.specs.Prelude.{client_lines}
use Rattle.run_texts.proofs.IndexLemmas.{next_client}
use Rattle.run_texts.proofs.Adding.{both, said}
use Rattle.run_texts.proofs.replies.push_replies.Goals as goal

pub loop-client-preserved : goal.loop-client-preserved
loop-client-preserved g c =
    let book = c.args.book.now in
    said (next_client (λ client. client_lines book.commits client 0 book.entries) c.loop-client.client) (both c.loop-client.invariant c.push_client.ensures)

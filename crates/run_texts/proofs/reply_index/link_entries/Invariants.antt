use Rattle.run_texts.specs.Prelude.{clients_of, AreLinked}
use Rattle.run_texts.proofs.reply_index.link_entries.Given as goal

abbrev pub invariant-loop-place : goal.invariant-loop-place
invariant-loop-place l = AreLinked (clients_of l.entries) l.place l.first l.next

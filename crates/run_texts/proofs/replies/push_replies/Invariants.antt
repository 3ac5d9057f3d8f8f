use Rattle.std.specs.List.{flat_map, range_with_len}
use Rattle.run_texts.specs.Prelude.{output, AddsText, as_text, client_lines}
use Rattle.run_texts.proofs.replies.push_replies.Given as goal

abbrev pub invariant-loop-client : goal.invariant-loop-client
invariant-loop-client g l =
    AddsText (as_text (flat_map (λ client. client_lines l.book.commits client 0 l.book.entries) (range_with_len 0 l.client))) l.initial.text l.text
    (output (g.K.Sink.written l.initial.out) (g.K.Sink.faults l.initial.out)) (output (g.K.Sink.written l.out) (g.K.Sink.faults l.out))

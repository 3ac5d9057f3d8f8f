use Rattle.std.proofs.Common.{◌≡◌, ◌++◌, [], true, Bool, ap, sym, ◌∙◌, subst}
use Rattle.run_texts.specs.Prelude.{output, Waiting, PrintedSoFar}
use Rattle.run_texts.proofs.Adding.{stopped_in}
use Rattle.run_texts.proofs.printer.Printer.finish.Goals as goal

pub returns-then-printer : goal.returns-then-printer
returns-then-printer g c = λ start text so_far.
    let now = output (g.K.Sink.written c.pass_on.new.out) (g.K.Sink.faults c.pass_on.new.out) in
    let failed : c.pass_on.new.self.failed ≡ true = sym (ap (λ (v : Waiting). v.failed) c.printer.view_is) ∙ c.if-printer.true in
    stopped_in start now text
    (subst (λ (b : Bool). PrintedSoFar b start (text ++ []) c.pass_on.new.self.bytes now) failed (c.pass_on.ensures.adds.more start text so_far))

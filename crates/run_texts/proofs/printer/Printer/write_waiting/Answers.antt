use Rattle.std.proofs.Common.{◌≡◌, false, ap, sym, ◌∙◌}
use Rattle.run_texts.specs.Prelude.{Waiting}
use Rattle.run_texts.proofs.Adding.{front_written}
use Rattle.run_texts.proofs.printer.Printer.write_waiting.Goals as goal

pub returns-in-Err : goal.returns-in-Err
returns-in-Err g c =
    let p = c.args.self.now in
    let bytes : c.as_slice.result.now ≡ p.bytes = c.as_slice.ensures.value ∙ ap (λ (v : Waiting). v.bytes) c.self.view_is in
    let good : p.failed ≡ false = sym (ap (λ (v : Waiting). v.failed) c.self.view_is) ∙ c.if-self.false in
    front_written p _ _ _ good bytes c.in-Err.ensures.err

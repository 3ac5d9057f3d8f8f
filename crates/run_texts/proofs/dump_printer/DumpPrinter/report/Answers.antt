use Rattle.std.proofs.Common.{Bool, ap, inr, refl, sym, ◌∙◌}
use Rattle.run_texts.specs.Prelude.{end_status, DumpSoFar}
use Rattle.run_texts.proofs.Adding.{with_end}
use Rattle.run_texts.proofs.DumpLemmas.{whole_dump, stopped_dump}
use Rattle.run_texts.proofs.dump_printer.DumpPrinter.report.Goals as goal

pub returns-clause-printed : goal.returns-clause-printed
returns-clause-printed g c start colls so_far =
    let bad = ap (λ (d : DumpSoFar). d.bad) c.self.view_is in
    with_end (c.run_status.ensures ∙ ap (λ (b : Bool). end_status b c.args.end.now) (bad ∙ so_far.noted))
    (c.print_rest.ensures _ _ (whole_dump colls c.args.end.now c.args.self start so_far (ap (λ (d : DumpSoFar). d.text) c.self.view_is) bad
    c.push_last.ensures))

pub returns-then-has_failed-clause-printed : goal.returns-then-has_failed-clause-printed
returns-then-has_failed-clause-printed g c start colls so_far =
    inr (refl, stopped_dump colls c.args.end.now c.args.self start _ so_far (sym c.has_failed.ensures ∙ c.if-has_failed.true))

pub returns-then-has_failed-clause-failed : goal.returns-then-has_failed-clause-failed
returns-then-has_failed-clause-failed g c failed start colls so_far = (refl, stopped_dump colls c.args.end.now c.args.self start _ so_far failed)

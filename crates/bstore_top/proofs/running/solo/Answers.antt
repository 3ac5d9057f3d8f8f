use Rattle.std.proofs.Common.{ℕ, sym, subst, ap, map}
use Rattle.std.specs.Option.{option_map}
use Rattle.run_texts.specs.declared.status.Stop.TheVariants.{OutOfMemory}
use Rattle.run_texts.specs.Prelude.{output, ReportsStop}
use Rattle.command_words.specs.CommandLine.{words_of, IsNoCommandLine, IsWhyNot}
use Rattle.command_words.proofs.OneLine.{one_line}
use Rattle.bstore_top.proofs.WordsLemmas.{unread_run}
use Rattle.bstore_top.proofs.running.solo.Goals as goal

pub returns-in-Ok-clause-run : goal.returns-in-Ok-clause-run
returns-in-Ok-clause-run g c line spelled = rw (← one_line _ _ line c.in-Ok.ensures spelled) c.run.ensures.run

pub returns-in-Ok-clause-store : goal.returns-in-Ok-clause-store
returns-in-Ok-clause-store g c done line spelled = rw (← one_line _ _ line c.in-Ok.ensures spelled) (c.run.ensures.store done)

pub returns-in-Ok-clause-durable : goal.returns-in-Ok-clause-durable
returns-in-Ok-clause-durable g c line spelled = rw (← one_line _ _ line c.in-Ok.ensures spelled) c.run.ensures.durable

pub returns-in-Err-Told-clause-run : goal.returns-in-Err-Told-clause-run
returns-in-Err-Told-clause-run g c line spelled =
    let none : IsNoCommandLine (words_of c.args.words.now) = subst (IsWhyNot (words_of c.args.words.now)) c.in-Err-Told.field-0-is c.in-Err-Told.ensures in
    absurd (none line spelled)

pub returns-in-Err-Memory-clause-run : goal.returns-in-Err-Memory-clause-run
returns-in-Err-Memory-clause-run g c line spelled =
    let o = c.bare-in-Err-Memory in
    let old = output (g.K.Sink.written c.args.out.now) (g.K.Sink.faults c.args.out.now) in
    let new = output (g.K.Sink.written c.report_stop.new.out) (g.K.Sink.faults c.report_stop.new.out) in
    unread_run o.result.status (option_map g.B.Dev.Device.disk o.result.dev) o.result.book old new
    (ap (option_map g.B.Dev.Device.disk) o.ensures.dev) o.ensures.rest.no_book
    (subst (λ (n : ℕ). ReportsStop OutOfMemory n old new) (sym o.ensures.status) c.report_stop.ensures)
    (option_map g.B.Dev.Device.faults o.result.dev) (map g.B.Src.Source.faults o.result.sources.items) (g.B.Bay.bay c.args.bay.now) (g.B.Bay.faults c.args.bay.now)
    (ap (map g.B.Src.Source.faults) o.ensures.rest.no_source) line

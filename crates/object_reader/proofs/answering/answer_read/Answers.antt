use Rattle.std.proofs.Common.{◌+◌, sym, subst, ◌∙◌, arith}
use Rattle.std.proofs.lemmas.Bool.{ltb-false}
use Rattle.object_model.specs.Prelude.{object_limit}
use Rattle.object_model.specs.declared.command.Read.TheVariants as reads
use Rattle.read_facts.specs.Prelude.{IsHeldAt, IsAnswerOf}
use Rattle.write_buffers.specs.Prelude.{memory_in}
use Rattle.object_reader.specs.Ranges.{GivesRange}
use Rattle.object_reader.specs.PartFails.{IsCsumOf}
use Rattle.object_reader.proofs.AnswerLemmas.{ok_of, at_some, range_taken, read_too_far, is_there, can_read, bytes_answer, read_fails, read_needs}
use Rattle.object_reader.proofs.answering.answer_read.Goals as goal

pub new-pages-requires-clause-numbers : goal.new-pages-requires-clause-numbers
new-pages-requires-clause-numbers g c = (at_some _ _ _ _ c.in_ok-found.ensures.found c.in-Some.is).numbers

pub returns-then-ends_too_far-clause-ok : goal.returns-then-ends_too_far-clause-ok
returns-then-ends_too_far-clause-ok g c =
    read_too_far _ _ _ c.find_object.ensures.names.0 c.find_object.ensures.names.1 (is_there _ _ _ _ _ _ _ _ c.requires.readable (at_some _ _ _ _ c.in_ok-found.ensures.found c.in-Some.is))
    c.args.off c.args.len (sym c.ends_too_far.ensures ∙ c.if-ends_too_far.true)

pub read_range-requires-clause-can : goal.read_range-requires-clause-can
read_range-requires-clause-can g c = can_read _ _ _ _ _ _ _ _ c.requires.readable (at_some _ _ _ _ c.in_ok-found.ensures.found c.in-Some.is) _ c.new-pages.ensures

pub read_range-requires-clause-limit : goal.read_range-requires-clause-limit
read_range-requires-clause-limit g c =
    omega (arith, ltb-false object_limit (c.args.off + c.args.len) (sym c.ends_too_far.ensures ∙ c.if-ends_too_far.false))

pub returns-in-Ok-clause-ok : goal.returns-in-Ok-clause-ok
returns-in-Ok-clause-ok g c =
    bytes_answer _ _ _ _ _ _ _ _ c.requires.readable (at_some _ _ _ _ c.in_ok-found.ensures.found c.in-Some.is) _ c.new-pages.ensures c.args.off c.args.len c.from_vec.result
    (range_taken _ _ _ _ _ _ _ _ c.requires.readable (at_some _ _ _ _ c.in_ok-found.ensures.found c.in-Some.is) c.find_object.ensures.names.0 c.find_object.ensures.names.1 c.args.off c.args.len (sym c.ends_too_far.ensures ∙ c.if-ends_too_far.false))
    (subst (GivesRange (memory_in c.args.buffers.now) (g.D.Device.disk c.args.device.now) c.new-pages.result c.in-Some.found.size c.args.off c.args.len)
    (sym c.from_vec.ensures) c.in-Ok.ensures.good)

pub returns-in-Err-clause-ok : goal.returns-in-Err-clause-ok
returns-in-Err-clause-ok g c =
    ok_of c.csum_answer.result (IsCsumOf c.in-Err.why) (IsAnswerOf c.args.width (memory_in c.args.buffers.now) (IsHeldAt (g.D.Device.disk c.args.device.now))
    c.args.rows.now.rows (reads.Bytes c.args.coll.now c.args.object.now c.args.off c.args.len))
    (λ a is. read_fails _ _ _ _ _ _ _ _ c.requires.readable (at_some _ _ _ _ c.in_ok-found.ensures.found c.in-Some.is) _ c.new-pages.ensures c.args.off c.args.len c.in-Err.why a
    (range_taken _ _ _ _ _ _ _ _ c.requires.readable (at_some _ _ _ _ c.in_ok-found.ensures.found c.in-Some.is) c.find_object.ensures.names.0 c.find_object.ensures.names.1 c.args.off c.args.len (sym c.ends_too_far.ensures ∙ c.if-ends_too_far.false)) c.in-Err.ensures.fail is) c.csum_answer.ensures.ok

pub returns-in-Err-clause-fault : goal.returns-in-Err-clause-fault
returns-in-Err-clause-fault g c is =
    read_needs _ _ _ _ _ _ _ _ c.requires.readable (at_some _ _ _ _ c.in_ok-found.ensures.found c.in-Some.is) _ c.new-pages.ensures c.args.off c.args.len c.in-Err.why
    (range_taken _ _ _ _ _ _ _ _ c.requires.readable (at_some _ _ _ _ c.in_ok-found.ensures.found c.in-Some.is) c.find_object.ensures.names.0 c.find_object.ensures.names.1 c.args.off c.args.len (sym c.ends_too_far.ensures ∙ c.if-ends_too_far.false)) c.in-Err.ensures.fail (c.csum_answer.ensures.cause is)

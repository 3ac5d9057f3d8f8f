use Rattle.object_model.specs.declared.command.Read.TheVariants as reads
use Rattle.read_facts.specs.Prelude.{IsHeldAt, IsAnswerOf}
use Rattle.write_buffers.specs.Prelude.{memory_in}
use Rattle.object_reader.specs.PartFails.{IsCsumOf}
use Rattle.object_reader.proofs.AnswerLemmas.{ok_of, at_some, can_read, size_most, sum_gives, sum_fails, sum_needs, whole_taken}
use Rattle.object_reader.proofs.answering.answer_sum.Goals as goal

pub new-pages-requires-clause-numbers : goal.new-pages-requires-clause-numbers
new-pages-requires-clause-numbers g c = (at_some _ _ _ _ c.in_ok-found.ensures.found c.in-Some.is).numbers

pub sum-requires-clause-can : goal.sum-requires-clause-can
sum-requires-clause-can g c = can_read _ _ _ _ _ _ _ _ c.requires.readable (at_some _ _ _ _ c.in_ok-found.ensures.found c.in-Some.is) _ c.new-pages.ensures

pub sum-requires-clause-limit : goal.sum-requires-clause-limit
sum-requires-clause-limit g c = size_most _ _ _ _ _ _ _ _ c.requires.readable (at_some _ _ _ _ c.in_ok-found.ensures.found c.in-Some.is)

pub returns-in-Ok-clause-ok : goal.returns-in-Ok-clause-ok
returns-in-Ok-clause-ok g c =
    sum_gives _ _ _ _ _ _ _ _ c.requires.readable (at_some _ _ _ _ c.in_ok-found.ensures.found c.in-Some.is) _ c.new-pages.ensures c.in-Ok.crc (whole_taken _ _ _ _ _ _ _ _ c.requires.readable (at_some _ _ _ _ c.in_ok-found.ensures.found c.in-Some.is) c.find_object.ensures.names.0 c.find_object.ensures.names.1) c.in-Ok.ensures.good

pub returns-in-Err-clause-ok : goal.returns-in-Err-clause-ok
returns-in-Err-clause-ok g c =
    ok_of c.csum_answer.result (IsCsumOf c.in-Err.why) (IsAnswerOf c.args.width (memory_in c.args.buffers.now) (IsHeldAt (g.D.Device.disk c.args.device.now))
    c.args.rows.now.rows (reads.Sum c.args.coll.now c.args.object.now))
    (λ a is. sum_fails _ _ _ _ _ _ _ _ c.requires.readable (at_some _ _ _ _ c.in_ok-found.ensures.found c.in-Some.is) _ c.new-pages.ensures c.in-Err.why a (whole_taken _ _ _ _ _ _ _ _ c.requires.readable (at_some _ _ _ _ c.in_ok-found.ensures.found c.in-Some.is) c.find_object.ensures.names.0 c.find_object.ensures.names.1) c.in-Err.ensures.fail is) c.csum_answer.ensures.ok

pub returns-in-Err-clause-fault : goal.returns-in-Err-clause-fault
returns-in-Err-clause-fault g c is =
    sum_needs _ _ _ _ _ _ _ _ c.requires.readable (at_some _ _ _ _ c.in_ok-found.ensures.found c.in-Some.is) _ c.new-pages.ensures c.in-Err.why (whole_taken _ _ _ _ _ _ _ _ c.requires.readable (at_some _ _ _ _ c.in_ok-found.ensures.found c.in-Some.is) c.find_object.ensures.names.0 c.find_object.ensures.names.1) c.in-Err.ensures.fail (c.csum_answer.ensures.cause is)

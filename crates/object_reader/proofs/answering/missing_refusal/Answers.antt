use Rattle.read_facts.proofs.Found.{object_missing}
use Rattle.object_reader.proofs.AnswerLemmas.{at_none}
use Rattle.object_reader.proofs.answering.missing_refusal.Goals as goal

pub returns-in-None : goal.returns-in-None
returns-in-None c object name none objects shape =
    object_missing c.args.rows.now.rows objects shape c.args.coll.now object c.coll_refusal.ensures.coll name
    (at_none _ _ _ c.in_ok-refusal.ensures.refusal c.in-None.is) none

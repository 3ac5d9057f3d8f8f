use Rattle.std.proofs.Common.{sym, ap, ◌∙◌}
use Rattle.std.specs.FinMap as finite
use Rattle.object_reader.proofs.AnswerLemmas.{at_none, no_onode_row}
use Rattle.object_reader.proofs.answering.object_refusal.Goals as goal

pub returns-clause-refusal : goal.returns-clause-refusal
returns-clause-refusal c =
    let rows = c.args.rows.now.rows in
    let none = sym (c.has_row.ensures ∙ ap (finite.contains_key rows) c.in_ok-key.ensures.key) ∙ c.if-has_row.false in
    no_onode_row rows c.args.coll.now c.args.object.now c.onode_key.ensures.names.0 c.onode_key.ensures.names.1
    (at_none _ _ _ c.in_ok-refusal.ensures.refusal c.in_default.is) none

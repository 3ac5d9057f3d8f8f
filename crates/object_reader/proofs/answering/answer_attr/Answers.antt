use Rattle.std.proofs.Common.{◌≡◌, ℕ, List, Option, ap, ◌∙◌}
use Rattle.std.specs.FinMap as finite
use Rattle.block_device.specs.Prelude.{Disk}
use Rattle.object_model.specs.declared.command.Read.TheVariants as reads
use Rattle.unit_fields.specs.declared.width.Width.{Width}
use Rattle.read_facts.specs.Prelude.{IsHeldAt, IsAnswerOf}
use Rattle.read_facts.proofs.Found.{by_value, attr_answered}
use Rattle.store_image.specs.Prelude.{HasObject}
use Rattle.object_reader.proofs.AnswerLemmas.{ok_of, at_none}
use Rattle.object_reader.proofs.answering.answer_attr.Goals as goal

pub returns-clause-ok : goal.returns-clause-ok
returns-clause-ok c =
    let rows = c.args.rows.now.rows in
    let coll = c.args.coll.now in
    let object = c.args.object.now in
    let names = c.object_refusal.ensures.names in
    let there : HasObject rows coll object = at_none _ _ _ c.in_ok-refusal.ensures.refusal c.in_default.is in
    ok_of c.value_answer.result (λ a. a ≡ by_value (finite.get rows c.in_ok-key.key))
    (λ a. (width : Width) (memory : ℕ → Option (List ℕ)) (d : Disk) → IsAnswerOf width memory (IsHeldAt d) rows (reads.GetAttr coll object c.args.name.now) a)
    (λ a is width memory d. attr_answered rows coll object names.0 names.1 there.0 there.1 width memory (IsHeldAt d) c.args.name.now c.attr_key.ensures.names.2 a
    (is ∙ ap (λ k. by_value (finite.get rows k)) c.in_ok-key.ensures.key)) c.value_answer.ensures

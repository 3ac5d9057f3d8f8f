use Rattle.std.proofs.Common.{ap, sym, ◌∙◌}
use Rattle.blob_map.specs.Prelude.{is_next}
use Rattle.extent_shards.specs.Prelude.{body_with}
use Rattle.extent_shards.proofs.writing.is_next.Goals as goal

pub returns-in-Unit : goal.returns-in-Unit
returns-in-Unit c csums size =
    c.is_next_unit.ensures csums size ∙ ap (λ s. is_next (body_with s c.args.head.now.count csums) c.args.place.now) (sym c.in-Unit.is)

pub returns-in-Slot : goal.returns-in-Slot
returns-in-Slot c csums size =
    c.is_next_slot.ensures ∙ ap (λ s. is_next (body_with s c.args.head.now.count csums) c.args.place.now) (sym c.in-Slot.is)

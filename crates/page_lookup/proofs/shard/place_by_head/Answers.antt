use Rattle.std.proofs.Common.{ap, sym, subst, ◌∙◌}
use Rattle.page_lookup.specs.Prelude.{HasPlace, place_from}
use Rattle.page_lookup.proofs.shard.place_by_head.Goals as goal

pub place_on_units-requires-clause-number : goal.place_on_units-requires-clause-number
place_on_units-requires-clause-number c = (subst (λ s. HasPlace c.args.width c.args.bytes.now s c.args.i) c.in-Unit.is c.requires.has).0

pub place_on_units-requires-clause-csum : goal.place_on_units-requires-clause-csum
place_on_units-requires-clause-csum c = (subst (λ s. HasPlace c.args.width c.args.bytes.now s c.args.i) c.in-Unit.is c.requires.has).1

pub returns-in-Unit : goal.returns-in-Unit
returns-in-Unit c = c.place_on_units.ensures ∙ ap (λ s. place_from c.args.width c.args.bytes.now s c.args.i) (sym c.in-Unit.is)

pub place_on_slots-requires : goal.place_on_slots-requires
place_on_slots-requires c = subst (λ s. HasPlace c.args.width c.args.bytes.now s c.args.i) c.in-Slot.is c.requires.has

pub returns-in-Slot : goal.returns-in-Slot
returns-in-Slot c = c.place_on_slots.ensures ∙ ap (λ s. place_from c.args.width c.args.bytes.now s c.args.i) (sym c.in-Slot.is)

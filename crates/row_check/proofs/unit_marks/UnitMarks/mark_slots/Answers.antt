use Rattle.std.proofs.Common.{◌≡◌, ◌+◌, ◌∷◌, [], ◌++◌, List, length, take, take_all, subst, sym, ap, ◌∙◌, arith}
use Rattle.std.proofs.lemmas.List.{take_more, length-take-le}
use Rattle.row_format.specs.Prelude.{Slot}
use Rattle.row_check.specs.Marks.{Marks, slot_marked, slots_marked}
use Rattle.row_check.proofs.MarkSteps.{length-slots, slots_push}
use Rattle.row_check.proofs.unit_marks.UnitMarks.mark_slots.Goals as goal

pub mark_slot-requires : goal.mark_slot-requires
mark_slot-requires c = omega (
  arith,
  ap (λ (m : Marks). length m.owned) c.loop-i.invariant,
  length-slots (take c.loop-i.i c.args.slots.now) c.args.self.now c.args.first,
  c.requires,
  c.loop-i-test.true,
)

pub loop-i-preserved : goal.loop-i-preserved
loop-i-preserved c =
    let xs = c.args.slots.now in
    let i = c.loop-i.i in
    let x : Slot = c.index-slots-i.result in
    let list : take i xs ++ x ∷ [] ≡ take (i + 1) xs = ap (λ (y : Slot). take i xs ++ y ∷ []) c.index-slots-i.is ∙ sym (take_more xs i x c.loop-i-test.true) in
    c.mark_slot.ensures ∙ ap (λ (m : Marks). slot_marked m (c.args.first + i) x) c.loop-i.invariant
    ∙ slots_push (take i xs) c.args.self.now c.args.first (c.args.first + i) x (omega (arith, length-take-le i xs (omega (arith, c.loop-i-test.true))))
    ∙ ap (slots_marked c.args.self.now c.args.first) list

pub returns : goal.returns
returns c = c.loop-i.invariant ∙ ap (slots_marked c.args.self.now c.args.first) (take_all c.loop-i.i c.args.slots.now c.loop-i-test.false)

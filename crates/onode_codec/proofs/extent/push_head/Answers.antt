use Rattle.std.proofs.Common.{rules, ◌≡◌, ◌++◌, OnOk, sym, subst}
use Rattle.onode_codec.specs.declared.extent.Start.TheVariants.{Unit as OnUnit, Slot as OnSlot}
use Rattle.onode_codec.specs.Reading.{extent_head}
use Rattle.onode_codec.proofs.extent.push_head.Goals as goal

pub returns-in-Unit : goal.returns-in-Unit
returns-in-Unit c =
    let written : OnOk c.extend_from_slice.result (c.extend_from_slice.new.self.items ≡ c.args.out.now.items
    ++ extent_head (record { first = c.args.first; count = c.args.count; start = OnUnit c.in-Unit.unit })) = search rules in
    subst (λ s. OnOk c.extend_from_slice.result (c.extend_from_slice.new.self.items ≡ c.args.out.now.items
    ++ extent_head (record { first = c.args.first; count = c.args.count; start = s }))) (sym c.in-Unit.is) written

pub returns-in-Slot : goal.returns-in-Slot
returns-in-Slot c =
    let written : OnOk c.extend_from_slice-in-Slot.result (c.extend_from_slice-in-Slot.new.self.items ≡ c.args.out.now.items
    ++ extent_head (record { first = c.args.first; count = c.args.count; start = OnSlot c.in-Slot.sbid c.in-Slot.index })) = search rules in
    subst (λ s. OnOk c.extend_from_slice-in-Slot.result (c.extend_from_slice-in-Slot.new.self.items ≡ c.args.out.now.items
    ++ extent_head (record { first = c.args.first; count = c.args.count; start = s }))) (sym c.in-Slot.is) written

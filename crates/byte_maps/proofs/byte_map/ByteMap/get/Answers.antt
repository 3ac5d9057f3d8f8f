use Rattle.std.proofs.Common.{ap, sym, ◌∙◌, arith, Some, length}
use Rattle.std.specs.FinMap as map
use Rattle.std.specs.FinMap.{get-from_sorted}
use Rattle.byte_maps.specs.ByteMap.{byte_order}
use Rattle.byte_maps.proofs.Places.{found, absent}
use Rattle.byte_maps.proofs.byte_map.ByteMap.get.Goals as goal

pub index-requires : goal.index-requires
index-requires g c =
    let within = (found c.args.key.now _ _ c.in-Ok.at c.deref.ensures.value c.self.invariant c.in-Ok.ensures.bound c.in-Ok.ensures.position).within in
    omega (arith, within, c.deref.ensures.len, ap length c.deref.ensures.value)

pub returns-in-Ok : goal.returns-in-Ok
returns-in-Ok g c =
    let s = found c.args.key.now _ _ c.in-Ok.at c.deref.ensures.value c.self.invariant c.in-Ok.ensures.bound c.in-Ok.ensures.position in
    ap (λ e. Some e.1) c.index.ensures
    ∙ sym (ap (λ m. map.get m c.args.key.now) (sym c.self.view_is) ∙ get-from_sorted byte_order c.self.inside.entries.items c.args.key.now c.self.invariant ∙ s.value c.index.result.now)

pub returns-in-Err : goal.returns-in-Err
returns-in-Err g c =
    let s = absent c.args.key.now _ _ c.in-Err.field-0 c.deref.ensures.value c.self.invariant c.in-Err.ensures.bound c.in-Err.ensures.position in
    sym (ap (λ m. map.get m c.args.key.now) (sym c.self.view_is) ∙ get-from_sorted byte_order c.self.inside.entries.items c.args.key.now c.self.invariant ∙ s.none)

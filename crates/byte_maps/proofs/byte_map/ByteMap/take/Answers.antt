use Rattle.std.proofs.Common.{ap, sym, ◌∙◌, arith, length, Some}
use Rattle.std.specs.FinMap as map
use Rattle.byte_maps.proofs.Places.{found, absent, sorted_taken, view_taken, view_untouched, there, not_there}
use Rattle.byte_maps.proofs.byte_map.ByteMap.take.Goals as goal

pub remove-key-requires : goal.remove-key-requires
remove-key-requires g c =
    let s = found c.args.key.now _ _ c.in-Ok.at c.deref.ensures.value c.self.invariant c.in-Ok.ensures.bound c.in-Ok.ensures.position in
    omega (arith, s.within, c.deref.ensures.len, ap length c.deref.ensures.value)

pub invariant_of-self : goal.invariant_of-self
invariant_of-self g c =
    let s = found c.args.key.now _ _ c.in-Ok.at c.deref.ensures.value c.self.invariant c.in-Ok.ensures.bound c.in-Ok.ensures.position in
    rw c.remove-key.ensures.items (sorted_taken c.args.key.now c.self.inside.entries.items c.self.invariant c.in-Ok.at s)

pub returns-in-Ok-clause-was : goal.returns-in-Ok-clause-was
returns-in-Ok-clause-was g c =
    let s = found c.args.key.now _ _ c.in-Ok.at c.deref.ensures.value c.self.invariant c.in-Ok.ensures.bound c.in-Ok.ensures.position in
    ap (λ e. Some e.1) c.remove-key.ensures.value
    ∙ sym (ap (λ m. map.get m c.args.key.now) (sym c.self.view_is) ∙ there c.args.key.now c.self.inside.entries.items c.self.invariant c.in-Ok.at c.remove-key.result s)

pub returns-in-Ok-clause-taken : goal.returns-in-Ok-clause-taken
returns-in-Ok-clause-taken g c =
    let s = found c.args.key.now _ _ c.in-Ok.at c.deref.ensures.value c.self.invariant c.in-Ok.ensures.bound c.in-Ok.ensures.position in
    ap (λ fs. map.from_sorted fs) c.remove-key.ensures.items
    ∙ view_taken c.args.key.now c.self.inside.entries.items c.self.invariant c.in-Ok.at s
    ∙ ap (λ m. map.remove m c.args.key.now) c.self.view_is

pub returns-in-Err-clause-was : goal.returns-in-Err-clause-was
returns-in-Err-clause-was g c =
    let s = absent c.args.key.now _ _ c.in-Err.field-0 c.deref.ensures.value c.self.invariant c.in-Err.ensures.bound c.in-Err.ensures.position in
    sym (ap (λ m. map.get m c.args.key.now) (sym c.self.view_is) ∙ not_there c.args.key.now c.self.inside.entries.items c.self.invariant c.in-Err.field-0 s)

pub returns-in-Err-clause-taken : goal.returns-in-Err-clause-taken
returns-in-Err-clause-taken g c =
    let s = absent c.args.key.now _ _ c.in-Err.field-0 c.deref.ensures.value c.self.invariant c.in-Err.ensures.bound c.in-Err.ensures.position in
    sym c.self.view_is ∙ view_untouched c.args.key.now c.self.inside.entries.items c.self.invariant c.in-Err.field-0 s ∙ ap (λ m. map.remove m c.args.key.now) c.self.view_is

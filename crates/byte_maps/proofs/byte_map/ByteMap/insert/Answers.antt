use Rattle.std.proofs.Common.{ap, ◌∙◌, arith, length}
use Rattle.std.specs.FinMap as map
use Rattle.byte_maps.proofs.Places.{found, absent, sorted_replaced, view_replaced, sorted_added, view_added, not_there}
use Rattle.byte_maps.proofs.byte_map.ByteMap.insert.Goals as goal

pub index_mut-entry-requires : goal.index_mut-entry-requires
index_mut-entry-requires g c =
    let s = rw c.as_slice.ensures at (found c.as_slice.result.now _ _ c.in-Ok.at c.deref.ensures.value c.self.invariant c.in-Ok.ensures.bound c.in-Ok.ensures.position) in
    omega (arith, s.within, c.deref.ensures.len, ap length c.deref.ensures.value)

pub insert-requires : goal.insert-requires
insert-requires g c =
    let s = rw c.as_slice.ensures at (absent c.as_slice.result.now _ _ c.in-Err.at c.deref.ensures.value c.self.invariant c.in-Err.ensures.bound c.in-Err.ensures.position) in
    omega (arith, s.within, c.deref.ensures.len, ap length c.deref.ensures.value)

pub invariant_of-self : goal.invariant_of-self
invariant_of-self g c =
    let s = rw c.as_slice.ensures at (found c.as_slice.result.now _ _ c.in-Ok.at c.deref.ensures.value c.self.invariant c.in-Ok.ensures.bound c.in-Ok.ensures.position) in
    sorted_replaced c.args.key c.self.inside.entries.items c.self.invariant c.in-Ok.at c.args.value c.index_mut-entry.result.now s c.index_mut-entry.ensures.value

pub returns-in-Ok-clause-ok : goal.returns-in-Ok-clause-ok
returns-in-Ok-clause-ok g c =
    let s = rw c.as_slice.ensures at (found c.as_slice.result.now _ _ c.in-Ok.at c.deref.ensures.value c.self.invariant c.in-Ok.ensures.bound c.in-Ok.ensures.position) in
    view_replaced c.args.key c.self.inside.entries.items c.self.invariant c.in-Ok.at c.args.value c.index_mut-entry.result.now s c.index_mut-entry.ensures.value
    ∙ ap (λ m. map.insert m c.args.key c.args.value) c.self.view_is

pub invariant_of-self-in-Err : goal.invariant_of-self-in-Err
invariant_of-self-in-Err g c =
    let s = rw c.as_slice.ensures at (absent c.as_slice.result.now _ _ c.in-Err.at c.deref.ensures.value c.self.invariant c.in-Err.ensures.bound c.in-Err.ensures.position) in
    rw c.in_ok-insert-in-Err.ensures.items (sorted_added c.args.key c.self.inside.entries.items c.self.invariant c.in-Err.at c.args.value s)

pub returns-in_ok-insert-in-Err-clause-ok : goal.returns-in_ok-insert-in-Err-clause-ok
returns-in_ok-insert-in-Err-clause-ok g c =
    let s = rw c.as_slice.ensures at (absent c.as_slice.result.now _ _ c.in-Err.at c.deref.ensures.value c.self.invariant c.in-Err.ensures.bound c.in-Err.ensures.position) in
    ap (λ fs. map.from_sorted fs) c.in_ok-insert-in-Err.ensures.items
    ∙ view_added c.args.key c.self.inside.entries.items c.self.invariant c.in-Err.at c.args.value s
    ∙ ap (λ m. map.insert m c.args.key c.args.value) c.self.view_is

pub returns-in_err-insert-in-Err-clause-overwrites : goal.returns-in_err-insert-in-Err-clause-overwrites
returns-in_err-insert-in-Err-clause-overwrites g c there =
    let s = rw c.as_slice.ensures at (absent c.as_slice.result.now _ _ c.in-Err.at c.deref.ensures.value c.self.invariant c.in-Err.ensures.bound c.in-Err.ensures.position) in
    let none = not_there c.args.key c.self.inside.entries.items c.self.invariant c.in-Err.at s in
    let never = rw (← c.self.view_is, none) at there in absurd cc

use Rattle.std.proofs.Common.{◌≡◌, ◌-◌, ◌<◌, ◌≤◌, ap, arith}
use Rattle.std.proofs.lemmas.Bool.{leb-true, leb-false}
use Rattle.meta_log.specs.declared.slot.Super.{Super}
use Rattle.store_kernel.proofs.Batches.{bytes_of_next, next_fits, next_too_long}
use Rattle.store_kernel.proofs.kernel.Kernel.next_fits.Goals as goal

pub units_of_body-requires : goal.units_of_body-requires
units_of_body-requires g c =
    let ready = rw (← c.self.view_is) at c.requires.ready in
    let next = rw (← c.self.view_is) at c.requires.next in
    (bytes_of_next _ _ c.args.next.now c.self.invariant.kept ready next).few

pub returns-clause-fits : goal.returns-clause-fits
returns-clause-fits g c within =
    let k = c.self.inside in
    let ready = rw (← c.self.view_is) at c.requires.ready in
    let next = rw (← c.self.view_is) at c.requires.next in
    let half : c.sup.result.now.half ≡ k.meta.sup.half = ap (λ (s : Super). s.half) c.sup.ensures in
    let given = leb-true c.units_of_body.result (c.sup.result.now.half - c.tail.result) within in
    let le : c.units_of_body.result ≤ k.meta.sup.half - k.meta.tail = omega (arith, given, half, c.tail.ensures.tail) in
    rw (← c.self.view_is) (next_fits _ _ c.args.next.now.bytes c.units_of_body.result c.self.invariant.kept ready
    (bytes_of_next _ _ c.args.next.now c.self.invariant.kept ready next) c.units_of_body.ensures le)

pub returns-clause-too_long : goal.returns-clause-too_long
returns-clause-too_long g c beyond =
    let k = c.self.inside in
    let ready = rw (← c.self.view_is) at c.requires.ready in
    let next = rw (← c.self.view_is) at c.requires.next in
    let half : c.sup.result.now.half ≡ k.meta.sup.half = ap (λ (s : Super). s.half) c.sup.ensures in
    let given = leb-false c.units_of_body.result (c.sup.result.now.half - c.tail.result) beyond in
    let lt : k.meta.sup.half - k.meta.tail < c.units_of_body.result = omega (arith, given, half, c.tail.ensures.tail) in
    rw (← c.self.view_is) (next_too_long _ c.args.next.now.bytes c.units_of_body.result
    (bytes_of_next _ _ c.args.next.now c.self.invariant.kept ready next) c.units_of_body.ensures lt)

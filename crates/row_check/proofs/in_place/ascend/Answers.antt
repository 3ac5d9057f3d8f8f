use Rattle.std.proofs.Common.{◌≡◌, ◌≤◌, ◌-◌, true, false, subst, sym, ap, ◌∙◌, refl, arith}
use Rattle.row_format.specs.Prelude.{Extent, page_end}
use Rattle.row_check.proofs.Ascending.{ascending, overlapping}
use Rattle.row_check.proofs.in_place.ascend.Goals as goal

pub returns-then-not-ends_by : goal.returns-then-not-ends_by
returns-then-not-ends_by c =
    let i = c.loop-i.i in
    let a : Extent = c.index-extents-i-in-loop-i.result in
    let b : Extent = c.index-extents-i.result in
    let first = c.from.ensures in
    let tested = c.if-not-ends_by.ensures in
    let limit : c.from.result ≡ b.first = first ∙ ap (λ (e : Extent). e.first) c.next.view_is in
    let apart : ¬ (page_end a ≤ b.first) = λ le.
    let yes : false ≡ true = tested.1 (subst (λ n. page_end a ≤ n) (sym limit) le) in cc in
    (λ yes. absurd cc, λ up. absurd (overlapping c.args.extents.now (i - 1) i a b (omega arith) (omega arith) c.index-extents-i-in-loop-i.is c.index-extents-i.is apart up))

pub returns : goal.returns
returns c = (λ yes. ascending c.args.extents.now c.loop-i.i (omega arith) c.loop-i.invariant, λ up. refl)

use Rattle.std.proofs.Common.{ap, sym, ◌∙◌, Some, T, subst}
use Rattle.std.specs.FinMap.{is_sorted, find}
use Rattle.byte_maps.specs.ByteMap.{byte_order}
use Rattle.byte_maps.proofs.Prelude.{found, absent}
use Rattle.meta_rows.proofs.chunk.Chunk.get.Goals as goal

pub returns-in-Ok : goal.returns-in-Ok
returns-in-Ok c =
    let order = subst (λ es. T (is_sorted byte_order es)) (sym c.self.view_is) c.requires in
    let s = found c.args.key.now _ _ c.in-Ok.at c.deref.ensures.value order c.in-Ok.ensures.bound c.in-Ok.ensures.position in
    ap (λ e. Some e.1) c.index.ensures
    ∙ sym (ap (find byte_order c.args.key.now) (sym c.self.view_is) ∙ s.value c.index.result.now)

pub returns-in-Err : goal.returns-in-Err
returns-in-Err c =
    let order = subst (λ es. T (is_sorted byte_order es)) (sym c.self.view_is) c.requires in
    let s = absent c.args.key.now _ _ c.in-Err.field-0 c.deref.ensures.value order c.in-Err.ensures.bound c.in-Err.ensures.position in
    sym (ap (find byte_order c.args.key.now) (sym c.self.view_is) ∙ s.none)

use Rattle.std.proofs.Common.{◌≡◌, ◌-◌, ◌*◌, ◌<◌, ◌∙◌, ◌++◌, length, take, drop, refl, sym, ap, ap₂, subst, arith}
use Rattle.std.specs.Int.{w32, to_le_bytes}
use Rattle.std.proofs.lemmas.Result.{IfOk-weaker}
use Rattle.meta_rows.specs.declared.op_cursor.OpCursor.{OpCursor}
use Rattle.meta_rows.specs.Prelude.{ops_bytes}
use Rattle.meta_log.specs.Prelude.{head_of, record_bytes, body_before, Sealed, IsCutInto, sealed_units}
use Rattle.meta_log.proofs.RecordLemmas.{count_below}
use Rattle.meta_log.proofs.SealLemmas.{length-record_bytes, unit_count-below, begins_at, body_from}
use Rattle.meta_log.proofs.RowsLemmas.{first_part, later_part}
use Rattle.meta_log.proofs.sealed.SealedRecord.unfilled.Goals as goal

pub overflow_mul-first : goal.overflow_mul-first
overflow_mul-first c =
    let below = unit_count-below c.self.inside.number c.self.inside.ops.items c.self.invariant.sealable in
    omega (arith, c.requires.within, ap sealed_units c.self.view_is, below)

pub spelled-requires-clause-within : goal.spelled-requires-clause-within
spelled-requires-clause-within c =
    let several : 64 < c.self.inside.units = omega (arith, c.self.invariant.counted, ap sealed_units c.self.view_is, c.requires.several) in
    let cut = c.self.invariant.several several in
    let there : c.args.piece < length c.self.inside.cut.starts.items =
    omega (arith, cut.counted, ap sealed_units c.self.view_is, c.requires.within, c.requires.some) in
    let here = begins_at c.self.inside.ops.items 0 c.args.piece c.self.inside.cut.starts.items c.index-start.result.now cut.begin there in
    omega (arith, here.0, ap length c.deref.ensures.value, ap (λ (at : OpCursor). at.ops) c.index-start.ensures)

pub returns-then-piece-ne0 : goal.returns-then-piece-ne0
returns-then-piece-ne0 c =
    let made = c.args.self.now in
    let kept = c.self.inside in
    let several : 64 < kept.units = omega (arith, c.self.invariant.counted, ap sealed_units c.self.view_is, c.requires.several) in
    let cut = subst (λ (m : Sealed). IsCutInto m.number m.ops kept.cut) c.self.view_is (c.self.invariant.several several) in
    let sized : kept.size ≡ length (ops_bytes made.ops) = c.self.invariant.sized ∙ ap (λ (m : Sealed). length (ops_bytes m.ops)) c.self.view_is in
    let there : c.args.piece < length kept.cut.starts.items = omega (arith, cut.counted, c.requires.within, c.requires.some) in
    let size = c.body_before.result - c.body_before-2.result in
    later_part made.number made.ops (64 * c.args.piece) c.args.count size (body_before (length (ops_bytes made.ops)) (64 * c.args.piece)) c.in_ok-body.body.items
    (omega (arith, c.if-piece-ne0.true)) (omega (arith, length-record_bytes made.number made.ops, c.requires.within, c.requires.some)) refl
    (omega (arith, c.body_before.ensures, c.body_before-2.ensures, sized))
    (body_from made.ops c.deref.result.now kept.cut.starts.items c.args.piece size c.index-start.result.now c.index-start.result.now c.in_ok-body.body.items
    (c.deref.ensures.value ∙ ap (λ (m : Sealed). m.ops) c.self.view_is) cut.begin there c.index-start.ensures c.in_ok-body.ensures)

pub overflow_cast-ops : goal.overflow_cast-ops
overflow_cast-ops c = omega (arith, c.len-ops.ensures, c.self.invariant.sealable.body_below, count_below c.self.inside.ops.items)

pub returns : goal.returns
returns c =
    let made = c.args.self.now in
    let kept = c.self.inside in
    let several : 64 < kept.units = omega (arith, c.self.invariant.counted, ap sealed_units c.self.view_is, c.requires.several) in
    let cut = subst (λ (m : Sealed). IsCutInto m.number m.ops kept.cut) c.self.view_is (c.self.invariant.several several) in
    let sized : kept.size ≡ length (ops_bytes made.ops) = c.self.invariant.sized ∙ ap (λ (m : Sealed). length (ops_bytes m.ops)) c.self.view_is in
    let there : c.args.piece < length kept.cut.starts.items = omega (arith, cut.counted, c.requires.within, c.requires.some) in
    let none : c.args.piece ≡ 0 = omega (arith, c.if-piece-ne0.false) in
    let size = c.body_before.result - c.body_before-2.result in
    let count_is : c.len-ops.result ≡ length made.ops = omega (arith, c.len-ops.ensures, ap (λ (m : Sealed). length m.ops) c.self.view_is) in
    let size_is : size ≡ body_before (length (ops_bytes made.ops)) c.args.count = omega (arith, c.body_before.ensures, c.body_before-2.ensures, sized, none) in
    let place : body_before (length (ops_bytes made.ops)) (64 * c.args.piece) ≡ 0 = omega (arith, none) in
    let body : c.deref-2.result.now ≡ take size (ops_bytes made.ops) =
    c.deref-2.ensures.value
    ∙ body_from made.ops c.deref.result.now kept.cut.starts.items c.args.piece size c.index-start.result.now c.index-start.result.now c.in_ok-body.body.items
    (c.deref.ensures.value ∙ ap (λ (m : Sealed). m.ops) c.self.view_is) cut.begin there c.index-start.ensures c.in_ok-body.ensures
    ∙ ap (λ n. take size (drop n (ops_bytes made.ops))) place in
    IfOk-weaker c.headed.result _ _ (λ bytes is.
    is ∙ ap (λ number. head_of number c.len-ops.result kept.size ++ to_le_bytes w32 kept.cut.sum ++ c.deref-2.result.now) (ap (λ (m : Sealed). m.number) c.self.view_is)
    ∙ ap₂ (λ n s. head_of made.number n s ++ to_le_bytes w32 kept.cut.sum ++ c.deref-2.result.now) count_is sized
    ∙ first_part made.number made.ops c.args.count size kept.cut.sum c.deref-2.result.now c.requires.some cut.sum size_is body
    ∙ ap (λ k. take (4096 * c.args.count) (drop (4096 * (64 * k)) (record_bytes made.number made.ops))) (sym none)) c.headed.ensures

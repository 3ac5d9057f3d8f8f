use Rattle.std.proofs.Common.{◌≡◌, ℕ, ◌+◌, ◌-◌, ◌*◌, ◌≤◌, List, length, min, take, drop, ap, ◌∙◌, arith}
use Rattle.std.proofs.lemmas.List.{length-drop, length-take-le, with_items_is}
use borrow.Rule.Slice.PartMut.{put_mid}
use Rattle.page_edits.proofs.Patches.{put_mid_length, patched_is}
use Rattle.page_edits.proofs.page_bytes.page_patched.Goals as goal

pub returns : goal.returns
returns c =
    let now : List ℕ = c.deref_mut.result.now in
    let old_is : c.deref_mut.result.now ≡ c.args.old.items = c.deref_mut.ensures.value in
    let off : ℕ = c.args.off in
    let page : ℕ = c.args.page in
    let bytes : List ℕ = c.args.bytes.now in
    let lo : ℕ = c.span_in-span.result.start in
    let hi : ℕ = c.span_in-span.result.end in
    let at : ℕ = c.saturating_sub-at.result in
    let req = c.requires in
    let at_is : c.saturating_sub-at.result ≡ 4096 * c.args.page - c.args.off = omega (arith, c.saturating_sub-at.ensures, c.page_start.ensures) in
    let lo_is : c.span_in-span.result.start ≡ c.args.off - 4096 * c.args.page = c.span_in-span.ensures.start in
    let hi_is : c.span_in-span.result.end ≡ min 4096 (c.args.off + length c.args.bytes.now - 4096 * c.args.page) =
    omega (arith, c.span_in-span.ensures.end, c.len.ensures.value) in
    let size : length c.deref_mut.result.now ≡ 4096 = ap length old_is ∙ req.whole in
    let inside : lo + (hi - lo) ≤ length c.deref_mut.result.now = omega arith in
    let count : at + (hi - lo) - at ≡ hi - lo = omega arith in
    let piece : c.copy_from_slice.new.self ≡ take (hi - lo) (drop at bytes) =
    c.copy_from_slice.ensures.after ∙ ap (λ n. take n (drop at c.as_slice.result.now)) count ∙ ap (λ l. take (hi - lo) (drop at l)) c.as_slice.ensures in
    let enough : hi - lo ≤ length (drop at bytes) = omega (arith, length-drop at bytes) in
    let long : length c.copy_from_slice.new.self ≡ hi - lo = ap length piece ∙ length-take-le (hi - lo) (drop at bytes) enough in
    c.in_ok-from_vec.ensures.ok
    ∙ with_items_is c.args.old (put_mid lo (hi - lo) now c.copy_from_slice.new.self)
    (put_mid_length lo (hi - lo) now c.copy_from_slice.new.self inside long ∙ omega arith)
    ∙ ap (put_mid lo (hi - lo) now) piece
    ∙ ap (λ l. put_mid lo (hi - lo) l (take (hi - lo) (drop at bytes))) old_is
    ∙ patched_is off bytes page c.args.old.items at lo hi req.whole req.from req.to at_is lo_is hi_is

use Rattle.std.proofs.Common.{◌≡◌, ℕ, ◌+◌, ◌-◌, ◌≤◌, List, length, take, drop, replicate, ap, ◌∙◌, arith}
use Rattle.std.proofs.lemmas.List.{length-drop, length-replicate, length-take-le, with_items_is}
use borrow.Rule.Slice.PartMut.{put_mid}
use Rattle.page_edits.proofs.Patches.{put_mid_length, zeroed_is}
use Rattle.page_edits.proofs.page_bytes.page_zeroed.Goals as goal

pub returns : goal.returns
returns c =
    let now : List ℕ = c.deref_mut.result.now in
    let old_is : c.deref_mut.result.now ≡ c.args.old.items = c.deref_mut.ensures.value in
    let lo : ℕ = c.span_in.result.start in
    let hi : ℕ = c.span_in.result.end in
    let span = c.span_in.ensures in
    let req = c.requires in
    let size : length c.deref_mut.result.now ≡ 4096 = ap length old_is ∙ req.whole in
    let inside : lo + (hi - lo) ≤ length c.deref_mut.result.now = omega arith in
    let part : length (take (hi - lo) (drop lo now)) ≡ hi - lo = length-take-le (hi - lo) (drop lo now) (omega (arith, length-drop lo now)) in
    let filled : c.fill.new.self ≡ replicate (hi - lo) 0 = c.fill.ensures.after (λ y e. e) ∙ ap (λ n. replicate n 0) part in
    let long : length c.fill.new.self ≡ hi - lo = ap length filled ∙ length-replicate (hi - lo) 0 in
    c.in_ok-from_vec.ensures.ok
    ∙ with_items_is c.args.old (put_mid lo (hi - lo) now c.fill.new.self)
    (put_mid_length lo (hi - lo) now c.fill.new.self inside long ∙ omega arith)
    ∙ ap (put_mid lo (hi - lo) now) filled
    ∙ ap (λ l. put_mid lo (hi - lo) l (replicate (hi - lo) 0)) old_is
    ∙ zeroed_is c.args.off c.args.end c.args.page c.args.old.items lo hi req.order req.whole req.from req.to span.start span.end

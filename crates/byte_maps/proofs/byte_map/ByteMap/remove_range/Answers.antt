use Rattle.std.proofs.Common.{rules, not, ℕ, Bool, List, ap, sym, ◌∙◌, subst, T}
use Rattle.std.proofs.lemmas.Fn.{filter_same}
use Rattle.std.specs.FinMap as map
use Rattle.std.specs.FinMap.{is_sorted}
use Rattle.byte_maps.specs.ByteMap.{byte_order, in_range}
use Rattle.byte_maps.proofs.Ranges.{sorted_kept, view_kept}
use Rattle.byte_maps.proofs.byte_map.ByteMap.remove_range.Goals as goal

pub invariant_of-self : goal.invariant_of-self
invariant_of-self g c =
    let kept = filter_same _ (λ e. not (in_range c.args.first.now c.args.last.now e.0)) _ (λ x b f' k. search rules) _ _ c.retain.ensures.filtered in
    subst (λ es. T (is_sorted byte_order es)) (sym kept) (sorted_kept (λ k. not (in_range c.args.first.now c.args.last.now k)) c.self.inside.entries.items c.self.invariant)

pub returns : goal.returns
returns g c =
    let kept = filter_same _ (λ e. not (in_range c.args.first.now c.args.last.now e.0)) _ (λ x b f' k. search rules) _ _ c.retain.ensures.filtered in
    let out : List ℕ → Bool = λ k. not (in_range c.args.first.now c.args.last.now k) in
    ap (λ es. map.from_sorted es) kept ∙ view_kept out c.self.inside.entries.items c.self.invariant ∙ ap (λ m. map.retain_keys m out) c.self.view_is

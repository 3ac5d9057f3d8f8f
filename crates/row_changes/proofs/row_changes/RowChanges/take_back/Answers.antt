use Rattle.std.proofs.Common.{rules, not, ap, ◌∙◌}
use Rattle.std.proofs.lemmas.Fn.{filter_same}
use Rattle.std.specs.FinMap as map
use Rattle.byte_maps.specs.ByteMap.{in_range}
use Rattle.row_changes.specs.Log.{logged}
use Rattle.row_changes.proofs.Logs.{logged_outside}
use Rattle.row_changes.proofs.row_changes.RowChanges.take_back.Goals as goal

pub returns : goal.returns
returns c =
    let first = c.args.first.now in
    let end = c.args.end.now in
    let kept = filter_same _ (λ e. not (in_range first end e.key)) _ (λ x b f' k. search rules) _ _ c.retain.ensures.filtered in
    ap (logged map.empty) kept ∙ logged_outside first end c.self.inside.log.items
    ∙ ap (λ m. map.retain_keys m (λ k. not (in_range first end k))) c.self.view_is

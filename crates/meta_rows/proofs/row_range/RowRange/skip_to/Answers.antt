use Rattle.std.proofs.Common.{◌≡◌, true, List, ℕ, sym, subst, ◌++◌, drop}
use Rattle.std.proofs.lemmas.List.{take_rest}
use Rattle.std.specs.Fn.{FnReturnsAt}
use Rattle.meta_rows.specs.Prelude.{Entry, joined, SkipsTo}
use Rattle.meta_rows.proofs.SkipLemmas.{skips_twice, skips_here}
use Rattle.meta_rows.proofs.row_range.RowRange.skip_to.Goals as goal

pub returns : goal.returns
returns g c =
    let fields = c.self.inside in
    let behind : List Entry = joined fields.more.now ++ fields.last.now in
    let reached : List ℕ → Type 0 = (λ value. FnReturnsAt g.F.Fn c.args.is_reached value true) in
    let here : List Entry = drop c.stop_in.result fields.here.now in
    let new : List Entry = here ++ behind in
    subst (λ (rows : List Entry). SkipsTo reached c.args.self.now (rows ++ behind)) (sym (take_rest fields.here.now c.stop_in.result))
    (skips_twice reached c.args.self.now c.skip_pieces.new.self new c.skip_pieces.ensures
    (subst (λ (rows : List Entry). SkipsTo reached rows new) c.self.view_is (skips_here reached fields.here.now behind c.stop_in.result c.stop_in.ensures)))

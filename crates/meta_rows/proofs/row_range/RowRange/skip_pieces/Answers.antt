use Rattle.std.proofs.Common.{◌≡◌, true, List, [], ℕ, ◌+◌, ◌++◌, refl, sym, subst, drop}
use Rattle.std.proofs.lemmas.List.{get_or_default, take_rest}
use Rattle.std.specs.Fn.{FnReturnsAt}
use Rattle.meta_rows.specs.Prelude.{Entry, joined, SkipsTo, BeginsReached}
use Rattle.meta_rows.proofs.SkipLemmas.{skips_to_last, skips_to_chunk}
use Rattle.meta_rows.proofs.row_range.RowRange.skip_pieces.Goals as goal

pub returns-then-begins_reached : goal.returns-then-begins_reached
returns-then-begins_reached g c =
    let fields = c.self.inside in
    let reached : List ℕ → Type 0 = (λ value. FnReturnsAt g.F.Fn c.args.is_reached.now value true) in
    subst (λ (rows : List Entry). SkipsTo reached rows (fields.last.now ++ ([] ++ []))) c.self.view_is
    (skips_to_last reached fields.here.now (joined fields.more.now) fields.last.now (c.if-begins_reached.ensures refl))

pub returns-in-Some : goal.returns-in-Some
returns-in-Some g c =
    let fields = c.self.inside in
    let more = fields.more.now in
    let at : ℕ = c.in-Some.at in
    let d : List Entry = c.index-self-at.result in
    let last = fields.last.now in
    let reached : List ℕ → Type 0 = (λ value. FnReturnsAt g.F.Fn c.args.is_reached.now value true) in
    let here = c.rows-self-inside.result.now in
    subst (λ (chunks : List (List Entry)). SkipsTo reached c.args.self.now (here ++ (joined chunks ++ last))) (sym (take_rest more (at + 1)))
    (subst (λ (rows : List Entry). SkipsTo reached rows (here ++ (joined (drop (at + 1) more) ++ last))) c.self.view_is
    (subst (λ (here : List Entry). SkipsTo reached (fields.here.now ++ (joined more ++ last)) (here ++ (joined (drop (at + 1) more) ++ last)))
    (sym c.rows-self-inside.ensures) (skips_to_chunk reached fields.here.now more last at d c.in-Some.ensures.0
    (subst (BeginsReached reached) (get_or_default more at [] d c.in-Some.ensures.0) c.in-Some.ensures.1))))

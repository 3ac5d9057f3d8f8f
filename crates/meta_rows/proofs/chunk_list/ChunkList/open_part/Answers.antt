use Rattle.std.proofs.Common.{◌∙◌, ◌≤◌, [], ap, sym, length, arith}
use Rattle.meta_rows.specs.Prelude.{first_order}
use Rattle.meta_rows.proofs.ChunkLemmas.{chunk_is, open_lower, open_upper, upper_at}
use Rattle.meta_rows.proofs.chunk_list.ChunkList.open_part.Goals as goal

pub returns-in-Greater : goal.returns-in-Greater
returns-in-Greater c =
    let at = c.args.at in
    let key = c.args.key.now in
    let b = c.requires.belongs in
    let long : 128 ≤ length b.chunk = omega (arith, c.requires.full, ap length (chunk_is b [])) in
    let upper = c.index.ensures ∙ upper_at key c.args.self.now c.split.new.self at c.requires.chunked b long c.split.ensures c.index.result.now in
    open_lower key c.args.self.now c.split.new.self at c.requires.chunked b long c.split.ensures (ap (first_order key) (sym upper) ∙ sym c.first_order.ensures ∙ c.in-Greater.is)

pub returns-in_default : goal.returns-in_default
returns-in_default c =
    let at = c.args.at in
    let key = c.args.key.now in
    let b = c.requires.belongs in
    let long : 128 ≤ length b.chunk = omega (arith, c.requires.full, ap length (chunk_is b [])) in
    let upper = c.index.ensures ∙ upper_at key c.args.self.now c.split.new.self at c.requires.chunked b long c.split.ensures c.index.result.now in
    open_upper key c.args.self.now c.split.new.self at c.requires.chunked b long c.split.ensures
    (λ e. c.in_default.not-Greater (c.first_order.ensures ∙ ap (first_order key) upper ∙ e))

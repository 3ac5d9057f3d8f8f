use Rattle.std.proofs.Common.{◌≡◌, ◌+◌, ◌-◌, ◌++◌, ◌∙◌, take, drop, get_or, ap, sym, subst, arith, append-nil}
use Rattle.std.proofs.lemmas.List.{take_rest}
use Rattle.meta_rows.specs.Prelude.{joined}
use Rattle.meta_rows.proofs.TableLemmas.{between_apart, between_inside, between_none}
use Rattle.meta_rows.proofs.row_table.between.Goals as goal

pub returns-then-from-to : goal.returns-then-from-to
returns-then-from-to c =
    let chunks = c.args.chunks.now in
    let from = c.args.from in
    let to = c.args.to in
    let here = c.rows.result.now in
    let last = c.rows-then-from-to.result.now in
    let first = subst (λ rows. rows ≡ get_or chunks from.0 rows) (sym c.rows.ensures) c.index-chunks-from.is in
    let second = subst (λ rows. rows ≡ get_or chunks to.0 rows) (sym c.rows-then-from-to.ensures) c.index-chunks-to.is in
    c.new.ensures
    ∙ ap (λ rows. rows ++ (joined (take (to.0 - (from.0 + 1)) (drop (from.0 + 1) chunks)) ++ take to.1 last)) (take_rest here from.1)
    ∙ sym (between_apart chunks from to c.requires.from c.requires.to here last c.if-from-to.true first second)

pub returns-then-from-to-2 : goal.returns-then-from-to-2
returns-then-from-to-2 c =
    let chunks = c.args.chunks.now in
    let here = subst (λ rows. rows ≡ get_or chunks c.args.from.0 rows) (sym c.rows-then-from-to-2.ensures) c.index-chunks-from-then-from-to-2.is in
    c.new-then-from-to-2.ensures
    ∙ append-nil c.part_of.result.now
    ∙ c.part_of.ensures
    ∙ sym (between_inside chunks c.args.from c.args.to c.requires.from c.requires.to c.rows-then-from-to-2.result.now c.if-from-to-2.true here)

pub returns-else-from-to-2 : goal.returns-else-from-to-2
returns-else-from-to-2 c =
    c.new-else-from-to-2.ensures
    ∙ sym (between_none c.args.chunks.now c.args.from c.args.to c.requires.from c.requires.to (omega (arith, c.if-from-to.false, c.if-from-to-2.false)))

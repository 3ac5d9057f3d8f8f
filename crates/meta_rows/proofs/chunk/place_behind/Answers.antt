use Rattle.std.proofs.Common.{◌∙◌, ◌+◌, ap, sym, arith}
use Rattle.byte_maps.specs.ByteMap.{byte_order}
use Rattle.meta_rows.specs.Prelude.{Entry}
use Rattle.meta_rows.proofs.ChunkLemmas.{between_two, row_order}
use Rattle.meta_rows.proofs.chunk.place_behind.Goals as goal

pub returns-then-next-entries : goal.returns-then-next-entries
returns-then-next-entries c =
    between_two c.args.key.now c.args.entries.now c.args.before c.requires.before c.requires.below (λ l. absurd (omega (arith, l, c.if-next-entries.true)))

pub returns-in-Greater : goal.returns-in-Greater
returns-in-Greater c =
    between_two c.args.key.now c.args.entries.now c.args.before c.requires.before c.requires.below
    (λ l. row_order c.args.key.now c.args.entries.now (c.args.before + 1) c.index-entries-next.result _ l c.index-entries-next.is
    (ap (λ (r : Entry). byte_order r.0 c.args.key.now) c.index-entries-next.is ∙ ap (λ k. byte_order k c.args.key.now) (sym c.as_slice.ensures) ∙ sym c.byte_order.ensures ∙ c.in-Greater.is))

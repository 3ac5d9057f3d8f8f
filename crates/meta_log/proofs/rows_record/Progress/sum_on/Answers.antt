use Rattle.std.proofs.Common.{◌≡◌, ◌+◌, ◌-◌, ◌∙◌, take, drop, ap, ap₂, arith}
use Rattle.crc32c_csum.specs.Prelude.{remainder}
use Rattle.meta_rows.specs.Prelude.{ops_bytes, row_sets}
use Rattle.meta_rows.proofs.SetLemmas.{row_sets_size}
use Rattle.meta_log.specs.Prelude.{record_head, body_summed}
use Rattle.meta_log.proofs.RowsLemmas.{rows_below, summed_more, sum_more}
use Rattle.meta_log.proofs.rows_record.Progress.sum_on.Goals as goal

pub behind-requires-clause-size : goal.behind-requires-clause-size
behind-requires-clause-size c = omega (arith, rows_below c.args.rows.now.rows c.args.self.now.number c.requires.record.sealable)

pub behind-requires-clause-most : goal.behind-requires-clause-most
behind-requires-clause-most c =
    let record_of = c.requires.record in
    omega (arith, record_of.summed, record_of.size, row_sets_size c.args.rows.now.rows, c.body_summed.ensures, c.body_summed-2.ensures)

pub returns-clause-sum : goal.returns-clause-sum
returns-clause-sum c =
    let r = c.args.self.now in
    let ops = row_sets c.args.rows.now.rows in
    let record_of = c.requires.record in
    let s = body_summed r.size r.given in
    let t = body_summed r.size (r.given + 1) in
    let count : c.body_summed.result - c.body_summed-2.result ≡ t - s = ap₂ (λ a b. a - b) c.body_summed.ensures c.body_summed-2.ensures in
    let bytes = c.in_ok-bytes.ensures ∙ ap₂ (λ n k. take n (drop k (ops_bytes ops))) count record_of.summed in
    sum_more (record_head r.number ops) (ops_bytes ops) c.in_ok-bytes.bytes.items s t r.digest c.update.new.self (summed_more r.size r.given)
    (omega (arith, record_of.size)) record_of.digest bytes (c.update.ensures ∙ ap (remainder r.digest) c.deref.ensures.value)

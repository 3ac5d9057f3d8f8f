use Rattle.std.proofs.Common.{◌≡◌, ◌+◌, ◌-◌, ◌*◌, ◌<◌, ◌∙◌, ◌++◌, List, ℕ, length, take, drop, sym, ap, ap₂, arith}
use Rattle.std.specs.Prelude.{bit_xor}
use Rattle.std.specs.Int.{w32, to_le_bytes}
use Rattle.std.proofs.lemmas.Result.{IfOk-weaker}
use Rattle.byte_maps.specs.Units.{units_for}
use Rattle.crc32c_csum.specs.Prelude.{all_ones}
use Rattle.meta_rows.specs.Prelude.{ops_bytes, row_sets}
use Rattle.meta_log.specs.Prelude.{head_of, record_head, record_bytes, body_before, body_summed}
use Rattle.meta_log.proofs.SealLemmas.{length-record_bytes}
use Rattle.meta_log.proofs.RowsLemmas.{all_summed, sum_whole, first_part, later_part}
use Rattle.meta_log.proofs.rows_record.Progress.unfilled.Goals as goal

pub returns-then-first-eq0 : goal.returns-then-first-eq0
returns-then-first-eq0 c =
    let r = c.args.self.now in
    let ops = row_sets c.args.rows.now.rows in
    let head = record_head r.number ops in
    let bytes = ops_bytes ops in
    let count = c.args.count in
    let record_of = c.requires.record in
    let none : c.args.first ≡ 0 = c.if-first-eq0.true in
    let units : r.units ≡ units_for (24 + r.size) =
    record_of.units ∙ ap units_for (length-record_bytes r.number ops ∙ ap (λ n. 24 + n) (sym record_of.size)) in
    let head_is : head_of r.number r.count r.size ≡ head = ap₂ (head_of r.number) record_of.count record_of.size in
    let all = all_summed r.units r.size r.given units (sym none ∙ c.requires.first) in
    let sum = sum_whole head bytes (body_summed r.size r.given) r.digest (all ∙ record_of.size) record_of.digest in
    let size = c.body_before.result - c.body_before-2.result in
    let size_is : size ≡ body_before (length bytes) count = omega (arith, c.body_before.ensures, c.body_before-2.ensures, none, record_of.size) in
    let place = record_of.front ∙ ap (λ u. body_before r.size u) (sym c.requires.first ∙ none) in
    let zero : body_before r.size 0 ≡ 0 = omega arith in
    let body : c.deref.result.now ≡ take size bytes = c.deref.ensures.value ∙ c.in_ok-body.ensures ∙ ap (λ n. take size (drop n bytes)) (place ∙ zero) in
    IfOk-weaker c.headed.result _ _ (λ made is.
    is ∙ ap₂ (λ (h : List ℕ) s. h ++ to_le_bytes w32 s ++ c.deref.result.now) head_is c.finish.ensures
    ∙ first_part r.number ops count size (bit_xor r.digest all_ones) c.deref.result.now c.requires.some sum size_is body
    ∙ ap (λ k. take (4096 * count) (drop (4096 * k) (record_bytes r.number ops))) (sym none)) c.headed.ensures

pub returns-else-first-eq0 : goal.returns-else-first-eq0
returns-else-first-eq0 c =
    let r = c.args.self.now in
    let ops = row_sets c.args.rows.now.rows in
    let record_of = c.requires.record in
    let some : 0 < c.args.first = omega (arith, c.if-first-eq0.false) in
    let units : r.units ≡ units_for (24 + r.size) =
    record_of.units ∙ ap units_for (length-record_bytes r.number ops ∙ ap (λ n. 24 + n) (sym record_of.size)) in
    let first = c.args.first in
    let size = c.body_before.result - c.body_before-2.result in
    later_part r.number ops first c.args.count size (body_before r.size first) c.in_ok-body.body.items some
    (omega (arith, units, record_of.size, c.requires.within, c.requires.some)) (ap (λ n. body_before n first) record_of.size)
    (omega (arith, c.body_before.ensures, c.body_before-2.ensures, record_of.size))
    (c.in_ok-body.ensures ∙ ap (λ n. take size (drop n (ops_bytes ops))) (record_of.front ∙ ap (λ u. body_before r.size u) (sym c.requires.first)))

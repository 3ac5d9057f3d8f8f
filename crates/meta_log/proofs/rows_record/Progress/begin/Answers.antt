use Rattle.std.proofs.Common.{◌+◌, ◌++◌, ◌∙◌, ap, ap₂, sym, take, append-nil, arith}
use Rattle.byte_maps.specs.Units.{units_for}
use Rattle.crc32c_csum.specs.Prelude.{all_ones, remainder}
use Rattle.meta_rows.specs.Prelude.{ops_bytes, row_sets}
use Rattle.meta_rows.proofs.SetLemmas.{row_sets_size}
use Rattle.meta_log.specs.Prelude.{head_of, record_head}
use Rattle.meta_log.proofs.RecordLemmas.{count_below}
use Rattle.meta_log.proofs.SealLemmas.{length-record_bytes}
use Rattle.meta_log.proofs.RowsLemmas.{rows_below, none_given, none_summed}
use Rattle.meta_log.proofs.rows_record.Progress.begin.Goals as goal

pub len-count-requires : goal.len-count-requires
len-count-requires c = omega (arith, rows_below c.args.rows.now.rows c.args.number c.requires)

pub overflow_cast-count : goal.overflow_cast-count
overflow_cast-count c = omega (arith, c.len-count.ensures, count_below (row_sets c.args.rows.now.rows), c.requires.body_below)

pub size-size-requires : goal.size-size-requires
size-size-requires c = omega (arith, rows_below c.args.rows.now.rows c.args.number c.requires)

pub overflow_cast-size : goal.overflow_cast-size
overflow_cast-size c = omega (arith, c.size-size.ensures, rows_below c.args.rows.now.rows c.args.number c.requires)

pub units_of_body-requires : goal.units_of_body-requires
units_of_body-requires c = omega (arith, c.size-size.ensures, rows_below c.args.rows.now.rows c.args.number c.requires)

pub overflow_cast-result : goal.overflow_cast-result
overflow_cast-result c = omega (arith, c.units_of_body.ensures, c.size-size.ensures, rows_below c.args.rows.now.rows c.args.number c.requires)

pub returns-clause-record : goal.returns-clause-record
returns-clause-record c =
    let rows = c.args.rows.now.rows in
    let ops = row_sets rows in
    let number = c.args.number in
    let head = record_head number ops in
    let size = c.size-size.ensures ∙ sym (row_sets_size rows) in
    record {
      sealable = c.requires;
      count = c.len-count.ensures;
      size = size;
      units = c.units_of_body.ensures ∙ ap units_for (ap (λ n. 24 + n) size ∙ sym (length-record_bytes number ops));
      front = c.end.ensures rows ∙ sym c.size-size.ensures ∙ none_given c.units_of_body.result c.size-size.result c.units_of_body.ensures;
      summed = c.start.ensures rows ∙ none_summed c.size-size.result;
      digest = c.in_ok-digest.ensures
          ∙ ap₂ (λ n m. remainder all_ones (head_of number n m)) c.len-count.ensures size
          ∙ ap (remainder all_ones) (sym (append-nil head) ∙ ap (λ k. head ++ take k (ops_bytes ops)) (none_summed c.size-size.result));
    }

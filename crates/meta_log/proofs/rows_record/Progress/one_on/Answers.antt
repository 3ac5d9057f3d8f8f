use Rattle.meta_rows.specs.Prelude.{bytes_before}
use Rattle.meta_log.proofs.RowsLemmas.{went_back}
use Rattle.meta_log.proofs.rows_record.Progress.one_on.Goals as goal

pub returns-clause-record : goal.returns-clause-record
returns-clause-record c =
    let r = c.args.self.now in
    let rows = c.args.rows.now.rows in
    let record_of = c.requires.record in
    record {
      sealable = record_of.sealable;
      count = record_of.count;
      size = record_of.size;
      units = record_of.units;
      front = went_back r.size r.units r.given c.args.first c.args.count (bytes_before rows c.in_ok-front.front) (bytes_before rows r.front) c.body_before.result
          c.body_before-2.result c.requires.left c.requires.first c.requires.count record_of.front c.body_before.ensures c.body_before-2.ensures c.in_ok-front.ensures;
      summed = c.in_ok-summed.ensures.place;
      digest = c.in_ok-summed.ensures.sum;
    }

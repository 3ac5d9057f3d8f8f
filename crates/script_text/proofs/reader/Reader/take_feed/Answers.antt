use Rattle.script_text.proofs.Readers.{none_of, takes_feed_if_ok}
use Rattle.script_text.proofs.reader.Reader.take_feed.Goals as goal

pub returns-clause-takes : goal.returns-clause-takes
returns-clause-takes c =
    let none = none_of c.args.self.now.bad c.is_some.result c.is_some.ensures c.if-is_some.false in
    let end = c.end_line.ensures in
    takes_feed_if_ok c.args.self.now c.end_line.new.self c.end_line.result none end.text end.count end.ends

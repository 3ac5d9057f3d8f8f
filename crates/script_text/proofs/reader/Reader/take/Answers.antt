use Rattle.script_text.proofs.Readers.{if_taken, taken_all, taken_more}
use Rattle.script_text.proofs.reader.Reader.take.Goals as goal

pub lines-preserved : goal.lines-preserved
lines-preserved c =
    taken_more c.args.piece.now c.lines.rest.now c.in-Some.front.now c.in-Some.behind.now c.args.self.now c.lines.self c.take_bytes.new.self
    c.take_feed.new.self c.lines.invariant c.in-Some.ensures.1
    c.in_ok-take_bytes.ensures.count c.in_ok-take_bytes.ensures.takes c.in_ok-take_feed.ensures.count c.in_ok-take_feed.ensures.takes

pub returns-clause-takes : goal.returns-clause-takes
returns-clause-takes c =
    if_taken _ _ c.take_bytes-2.result (taken_all c.args.piece.now c.lines.rest.now c.args.self.now c.lines.self c.take_bytes-2.new.self c.lines.invariant)
    c.take_bytes-2.ensures.takes

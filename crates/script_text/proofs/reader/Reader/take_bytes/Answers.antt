use Rattle.std.proofs.Common.{◌+◌, ◌<◌, length, arith}
use Rattle.script_text.specs.Prelude.{line_limit}
use Rattle.script_text.proofs.Readers.{none_of, too_long}
use Rattle.script_text.proofs.reader.Reader.take_bytes.Goals as goal

pub returns-then-len-bytes-gt-LINE_LIMIT-clause-takes : goal.returns-then-len-bytes-gt-LINE_LIMIT-clause-takes
returns-then-len-bytes-gt-LINE_LIMIT-clause-takes c bytes small after more =
    let none = none_of c.args.self.now.bad c.is_some.result c.is_some.ensures c.if-is_some.false in
    let long : line_limit < length c.args.self.now.text.items + length c.args.bytes.now = omega (arith, c.if-len-bytes-gt-LINE_LIMIT.true, c.len.ensures) in
    too_long bytes c.args.bytes.now c.args.self.now none c.requires.line long after more

use Rattle.std.proofs.Common.{rules, ◌≡◌, ◌≢◌, [], length}
use Rattle.std.proofs.lemmas.List.{nil_from_length}
use Rattle.script_text.proofs.Readers.{none_of, done_bad, done_ended, done_last_if_ok}
use Rattle.script_text.proofs.reader.Reader.end_last.Goals as goal
use Rattle.script_text.proofs.reader.Reader.end_last.Goals.{then-is_some-via-then-is_some, then-is_some-via-else-is_some+then-is_empty}

pub returns-then-is_some-clause-end : goal.returns-then-is_some-clause-end
returns-then-is_some-clause-end c bytes after = elim c.then-is_some.branch [
  | then-is_some-via-then-is_some w ↦ done_bad bytes _ _ c.args.self.now.bad c.is_some.result c.is_some.ensures w.if-is_some.true
      after
  | then-is_some-via-else-is_some+then-is_empty w ↦
      let none = none_of c.args.self.now.bad c.is_some.result c.is_some.ensures w.if-is_some.false in
      let size : length c.args.self.now.text.items ≡ 0 = search rules in
      let empty = nil_from_length c.args.self.now.text.items size in
      done_ended bytes c.args.self.now none empty after
]

pub returns-clause-end : goal.returns-clause-end
returns-clause-end c =
    let none = none_of c.args.self.now.bad c.is_some.result c.is_some.ensures c.if-is_some.false in
    let some : c.args.self.now.text.items ≢ [] = search rules in
    done_last_if_ok c.args.self.now c.end_line.new.self c.end_line.result none some c.end_line.ensures.count c.end_line.ensures.ends

use Rattle.std.proofs.Common.{rules, ◌≡◌, None}
use Rattle.script_text.proofs.Readers.{past_limit}
use Rattle.script_text.proofs.reader.Reader.refuse.Goals as goal

pub returns-then-is_none-clause-after : goal.returns-then-is_none-clause-after
returns-then-is_none-clause-after c bytes piece full some after = let none : c.args.self.now.bad ≡ None = search rules in past_limit bytes piece
    c.args.self.now none full some after

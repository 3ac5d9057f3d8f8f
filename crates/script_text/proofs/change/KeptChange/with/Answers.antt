use Rattle.std.proofs.Common.{Some, refl}
use Rattle.script_text.proofs.Parsing.{together_other, together_own}
use Rattle.script_text.proofs.change.KeptChange.with.Goals as goal

pub returns-then-not-is_same : goal.returns-then-not-is_same
returns-then-not-is_same c =
    together_other (Some c.args.self) c.args.self c.args.next c.coll.result.now c.coll-2.result.now c.is_same.result refl c.coll.ensures c.coll-2.ensures
    c.is_same.ensures c.if-not-is_same.true

pub returns-in-Ok : goal.returns-in-Ok
returns-in-Ok c =
    together_own (Some c.args.self) c.args.self c.args.next c.append.new.self c.coll.result.now c.coll-2.result.now c.is_same.result refl c.coll.ensures
    c.coll-2.ensures c.is_same.ensures c.if-not-is_same.false c.in-Ok.ensures

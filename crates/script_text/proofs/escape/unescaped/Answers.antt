use Rattle.std.proofs.Common.{rules, ◌≡◌, ◌≢◌, [], length}
use Rattle.std.proofs.lemmas.List.{nil_from_length}
use Rattle.script_text.specs.Prelude.{escape}
use Rattle.script_text.proofs.Spelled.{code_behind, read_none, read_more, read_no_more, read_all}
use Rattle.script_text.proofs.Names.{escape_code}
use Rattle.script_text.proofs.escape.unescaped.Goals as goal

pub bytes-init : goal.bytes-init
bytes-init c = read_none escape c.args.word.now _ c.new-bytes.ensures.items

pub bytes-smaller : goal.bytes-smaller
bytes-smaller c = code_behind escape escape_code c.in-Some.byte c.bytes.rest.now c.in-Some.behind.now c.in-Some.ensures.1

pub bytes-preserved : goal.bytes-preserved
bytes-preserved c =
    read_more escape c.args.word.now c.bytes.bytes.items c.bytes.rest.now c.in-Some.behind.now c.push.new.self.items c.in-Some.byte c.bytes.invariant
    c.in-Some.ensures.0 c.in-Some.ensures.1 c.in_ok-push.ensures.items

pub returns-then-not-is_empty : goal.returns-then-not-is_empty
returns-then-not-is_empty c same name are is =
    let some : c.bytes.rest.now ≢ [] = search rules in
    read_no_more escape escape_code c.args.word.now c.bytes.bytes.items c.bytes.rest.now name c.bytes.invariant some c.in_default.ensures are is

pub returns : goal.returns
returns c =
    let empty : length c.bytes.rest.now ≡ 0 = search rules in
    read_all escape c.args.word.now c.bytes.bytes.items c.bytes.rest.now c.bytes.invariant (nil_from_length c.bytes.rest.now empty)

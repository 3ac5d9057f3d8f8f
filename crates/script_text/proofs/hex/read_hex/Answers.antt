use Rattle.std.proofs.Common.{rules, arith, ◌≡◌, ◌≢◌, [], length}
use Rattle.std.proofs.lemmas.List.{nil_from_length}
use Rattle.script_text.specs.Prelude.{hex_pair}
use Rattle.script_text.proofs.Spelled.{code_behind, read_none, read_more, read_no_more, read_all}
use Rattle.script_text.proofs.Digits.{pair_code}
use Rattle.script_text.proofs.hex.read_hex.Goals as goal

pub bytes-init : goal.bytes-init
bytes-init c = read_none (hex_pair 0x61) c.args.digits.now _ c.in_ok-bytes.ensures.items

pub bytes-smaller : goal.bytes-smaller
bytes-smaller c = code_behind (hex_pair 0x61) (pair_code 0x61 (omega arith)) c.in-Some.byte c.bytes.rest.now c.in-Some.behind.now c.in-Some.ensures.1

pub bytes-preserved : goal.bytes-preserved
bytes-preserved c =
    read_more (hex_pair 0x61) c.args.digits.now c.bytes.bytes.items c.bytes.rest.now c.in-Some.behind.now c.push.new.self.items c.in-Some.byte c.bytes.invariant
    c.in-Some.ensures.0 c.in-Some.ensures.1 c.in_ok-push.ensures.items

pub returns-then-not-is_empty : goal.returns-then-not-is_empty
returns-then-not-is_empty c same name both =
    let some : c.bytes.rest.now ≢ [] = search rules in
    read_no_more (hex_pair 0x61) (pair_code 0x61 (omega arith)) c.args.digits.now c.bytes.bytes.items c.bytes.rest.now name c.bytes.invariant some c.in_default.ensures both.0 both.1

pub returns : goal.returns
returns c =
    let empty : length c.bytes.rest.now ≡ 0 = search rules in
    let all = read_all (hex_pair 0x61) c.args.digits.now c.bytes.bytes.items c.bytes.rest.now c.bytes.invariant (nil_from_length c.bytes.rest.now empty) in
    rw c.hex.ensures (rw c.from_vec.ensures all)

use Rattle.std.proofs.Common.{◌-◌, length, take, drop, refl, arith}
use Rattle.std.proofs.lemmas.List.{take_rest}
use Rattle.meta_rows.proofs.CursorLemmas.{passed_over, part_taken}
use Rattle.meta_rows.proofs.part.Part.take.Goals as goal

pub returns-then-bytes-self : goal.returns-then-bytes-self
returns-then-bytes-self c =
    let old = c.args.self.now in
    passed_over old.bytes.items c.args.bytes.now old.skip (old.skip - length c.args.bytes.now) old.left c.if-bytes-self.true refl

pub returns : goal.returns
returns c =
    let old = c.args.self.now in
    let came = c.args.bytes.now in
    part_taken old.bytes.items came (take (length came - old.skip) (drop old.skip came)) c.extend_from_slice.new.self.items old.skip old.left c.min-count.result
    (old.left - c.min-count.result) (omega (arith, c.if-bytes-self.false)) (take_rest came old.skip) c.min-count.ensures c.in_ok-extend_from_slice.ensures.items refl

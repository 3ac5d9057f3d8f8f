use Rattle.std.proofs.Common.{ap, sym, ◌∙◌, drop, length, arith}
use Rattle.std.proofs.lemmas.List.{drop_all}
use Rattle.crc32c_csum.specs.Prelude.{remainder, of_taken}
use Rattle.crc32c_csum.proofs.fold.take_all_out.Goals as goal

pub returns : goal.returns
returns c =
    let n = length c.args.piece.now in
    ap (remainder (of_taken n c.loop-i.taken)) (sym (drop_all n c.args.piece.now (omega arith)))
    ∙ ap (λ t. remainder (of_taken t c.loop-i.taken) (drop t c.args.piece.now)) (omega (arith, c.requires.whole, c.loop-i-test.false, c.loop-i.auto.i-end))
    ∙ c.loop-i.invariant

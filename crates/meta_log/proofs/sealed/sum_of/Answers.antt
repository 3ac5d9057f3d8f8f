use Rattle.std.proofs.Common.{ap, sym, ◌∙◌}
use Rattle.std.specs.Prelude.{bit_xor}
use Rattle.crc32c_csum.specs.Prelude.{all_ones, remainder}
use Rattle.crc32c_csum.proofs.Laws.{crc32c-append}
use Rattle.meta_log.proofs.sealed.sum_of.Goals as goal

pub returns : goal.returns
returns c =
    c.finish.ensures
    ∙ ap (λ r. bit_xor r all_ones) (c.update-2.ensures ∙ ap (λ r. remainder r c.args.body.now) (c.update.ensures
    ∙ ap (λ r. remainder r c.args.head.now) c.new-digest.ensures))
    ∙ sym (crc32c-append c.args.head.now c.args.body.now)

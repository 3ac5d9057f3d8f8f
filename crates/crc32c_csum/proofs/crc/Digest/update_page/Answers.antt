use Rattle.std.proofs.Common.{ap, ◌∙◌}
use Rattle.std.specs.Prelude.{bit_xor}
use Rattle.crc32c_csum.specs.Prelude.{remainder}
use Rattle.crc32c_csum.proofs.ByBits.{part_in}
use Rattle.crc32c_csum.proofs.crc.Digest.update_page.Goals as goal

pub returns : goal.returns
returns c = λ page long is.
    ap (λ x. bit_xor x (bit_xor c.args.sum 4294967295)) c.behind_page.ensures ∙ part_in 4096 c.self.inside.state c.args.sum page long is ∙ ap (λ r. remainder r page) c.self.view_is

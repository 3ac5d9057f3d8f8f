use Rattle.std.proofs.Common.{◌+◌, ◌∙◌, ap, length, drop, arith}
use Rattle.std.proofs.lemmas.List.{length-drop}
use Rattle.row_format.specs.Prelude.{own}
use Rattle.page_lookup.specs.Prelude.{csum_in}
use Rattle.page_lookup.proofs.shard.place_on_units.Goals as goal

pub behind-requires : goal.behind-requires
behind-requires c = omega (arith, c.requires.csum, c.bytes_of.ensures.bytes)

pub csum_in-csum-requires : goal.csum_in-csum-requires
csum_in-csum-requires c =
    omega (arith, c.requires.csum, ap length c.behind.ensures, c.bytes_of.ensures.bytes, length-drop (11 + c.bytes_of.result) c.args.bytes.now)

pub returns : goal.returns
returns c =
    let csum = c.csum_in-csum.ensures
    ∙ ap (csum_in c.args.width) (c.behind.ensures ∙ ap (λ n. drop (11 + n) c.args.bytes.now) c.bytes_of.ensures.bytes) in
    λ i. own (c.unit_behind-unit.ensures i) (csum i)

use Rattle.std.proofs.Common.{ap, ◌≡◌, sym, ◌∙◌, arith}
use Rattle.std.specs.FinMap as map
use Rattle.std.proofs.lemmas.Bool.Decides.{nat_tests}
use Rattle.byte_maps.specs.ByteMap.{byte_order}
use Rattle.byte_maps.proofs.byte_map.ByteMap.is_empty.Goals as goal

pub returns : goal.returns
returns g c = (
  λ is. map.empty_of_len c.args.self.now (let none : c.len.result ≡ 0 = grind (arith, nat_tests) in sym c.len.ensures ∙ none),
  λ is. let none : c.len.result ≡ 0 = c.len.ensures ∙ ap (λ m. map.len m) is ∙ map.len-empty byte_order _ in grind (arith, nat_tests),
)

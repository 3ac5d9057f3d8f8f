use Rattle.std.proofs.Common.{◌≡◌, ap, sym, ◌∙◌, arith}
use Rattle.std.specs.FinSet as set
use Rattle.std.specs.Ordering.{nat_cmp}
use Rattle.std.proofs.lemmas.Bool.Decides.{nat_tests}
use Rattle.unit_fields.proofs.unit_set.UnitSet.is_empty.Goals as goal

pub returns : goal.returns
returns c = (
  λ is. set.empty_of_len c.args.self.now (let none : c.len.result ≡ 0 = grind (arith, nat_tests) in sym c.len.ensures ∙ none),
  λ is. let none : c.len.result ≡ 0 = c.len.ensures ∙ ap (λ s. set.len s) is ∙ set.len-empty nat_cmp in grind (arith, nat_tests),
)

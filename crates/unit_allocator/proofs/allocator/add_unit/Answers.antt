use Rattle.std.proofs.Common.{ap, sym, ◌∙◌, ◌∷◌, [], ◌++◌}
use Rattle.unit_allocator.specs.Prelude.{units_of}
use Rattle.unit_allocator.proofs.Runs.{longer_last}
use Rattle.unit_allocator.proofs.allocator.add_unit.Goals as goal

pub returns-then-is_next-clause-units : goal.returns-then-is_next-clause-units
returns-then-is_next-clause-units c =
    ap units_of c.push_reserved.ensures.items
    ∙ longer_last c.pop.new.self.items c.in-Some.last c.args.unit (c.is_next.ensures.0 c.if-is_next.true).0
    ∙ ap (λ rs. units_of rs ++ c.args.unit ∷ []) (sym c.in-Some.ensures.items)

use Rattle.std.proofs.Common.{◌≡◌, sym, subst}
use Rattle.std.specs.Option.{MatchOption}
use Rattle.unit_fields.specs.Prelude.{IsName}
use Rattle.txn_planner.proofs.ObjectNames.{first_named}
use Rattle.txn_planner.proofs.laying.first_name.Goals as goal

pub unreachable-requires : goal.unreachable-requires
unreachable-requires c =
    let bytes = c.as_slice.result.now in
    let named : IsName bytes = subst IsName (sym c.as_slice.ensures)
    (first_named c.args.objects.now c.requires c.entries.result.now c.entries.ensures c.in-Some.field-0.now c.in-Some.ensures.value) in
    let none : ¬ (IsName bytes) =
    subst (λ z. MatchOption z (¬ (IsName bytes)) (λ name. (name ≡ bytes) × IsName bytes)) c.in-None-2.is c.in_ok-name-in-Some.ensures in
    none named

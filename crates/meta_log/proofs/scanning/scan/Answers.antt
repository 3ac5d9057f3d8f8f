use Rattle.std.proofs.Common.{◌∷◌, [], length, sym, ap, subst, arith}
use Rattle.std.proofs.lemmas.List.{length-append}
use Rattle.meta_log.specs.Prelude.{BeginsWithRecord, IsAtFront}
use Rattle.meta_log.proofs.ScanLemmas.{one_more, these_are_all, units-one_more, length-with_record}
use Rattle.meta_log.proofs.scanning.scan.Goals as goal

pub behind-left-requires : goal.behind-left-requires
behind-left-requires c =
    let found : IsAtFront c.records.left.now c.records.next_number c.in-Some.found = rw c.in-Some.is at c.in_ok-found.ensures in
    omega (arith, found.size, length-with_record _ _ _ _ found.stands)

pub records-preserved : goal.records-preserved
records-preserved c =
    let found : IsAtFront c.records.left.now c.records.next_number c.in-Some.found = rw c.in-Some.is at c.in_ok-found.ensures in
    let here : BeginsWithRecord c.records.left.now c.records.next_number c.in-Some.found.ops c.behind-left.result.now =
    subst (BeginsWithRecord c.records.left.now c.records.next_number c.in-Some.found.ops) (sym c.behind-left.ensures) found.stands
    in
    let kept = c.records.invariant in
    let pushed = c.in_ok-push.ensures.items in
    record {
      stand = rw pushed (one_more _ c.args.first c.records.next_number c.args.half.now _ _ _ kept.stand kept.number here);
      number = omega (arith, kept.number, ap length pushed, length-append c.records.records.items (c.in-Some.found.ops ∷ []));
      unit = rw pushed (omega (
        arith,
        kept.unit,
        found.size,
        c.from-next_unit.ensures,
        units-one_more c.records.records.items c.args.first
            c.records.next_number c.in-Some.found.ops kept.number,
      ));
      size = omega (arith, kept.size, found.size, c.from-next_unit.ensures, length-with_record _ _ _ _ here);
    }

pub returns : goal.returns
returns c =
    let kept = c.records.invariant in
    let none = rw c.in_default.is at c.in_ok-found.ensures in
    rw c.from_vec-records.ensures (record {
      stand = these_are_all _ c.args.first c.records.next_number c.args.half.now c.records.left.now kept.stand kept.number none;
      number = kept.number;
      unit = kept.unit;
      within = omega (arith, kept.size);
    })

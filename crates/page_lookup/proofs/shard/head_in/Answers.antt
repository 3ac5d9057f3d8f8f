use Rattle.std.proofs.Common.{◌≡◌, ◌∷◌, sym, subst, rules}
use Rattle.std.specs.Int.{w16, w32, from_le_bytes, to_le_bytes}
use Rattle.unit_fields.specs.Prelude.{ReadsNumber}
use Rattle.page_lookup.specs.Prelude.{IsHeadOf}
use Rattle.page_lookup.proofs.Fronts.{none_so, short_at_first, short_at_count, short_at_kind, too_few_for_slot, head_on_slot, too_few_for_units, head_on_unit}
use Rattle.page_lookup.proofs.shard.head_in.Goals as goal
use Rattle.page_lookup.proofs.shard.head_in.Goals.{then-kind-eq-SHARED+in_ok-start, else-kind-eq-SHARED+in_ok-start-2}

pub returns-in_err-first-clause-none : goal.returns-in_err-first-clause-none
returns-in_err-first-clause-none c = none_so c.from_residual.result _ (short_at_first c.args.width c.args.bytes.now (search rules))

pub returns-in_err-count-clause-none : goal.returns-in_err-count-clause-none
returns-in_err-count-clause-none c =
    none_so c.from_residual-in_err-count.result _
    (short_at_count c.args.width c.args.bytes.now c.u32.new.self c.in_ok-first.first (search rules) (search rules))

pub returns-in_err-kind-clause-none : goal.returns-in_err-kind-clause-none
returns-in_err-kind-clause-none c =
    none_so c.from_residual-in_err-kind.result _
    (short_at_kind c.args.width c.args.bytes.now c.u32.new.self c.u16.new.self c.in_ok-first.first c.in_ok-count.count (search rules) (search rules)
    (search rules))

pub returns-in_err-start-clause-none : goal.returns-in_err-start-clause-none
returns-in_err-start-clause-none c =
    none_so c.from_residual-in_err-start.result _
    (too_few_for_slot c.args.width c.args.bytes.now c.u32.new.self c.u16.new.self c.u8.new.self c.in_ok-first.first c.in_ok-count.count
    c.in_ok-kind.kind (search rules) (search rules) (search rules) c.if-kind-eq-SHARED.true (search rules))

pub returns-in_err-start-2-clause-none : goal.returns-in_err-start-2-clause-none
returns-in_err-start-2-clause-none c =
    none_so c.from_residual-in_err-start-2.result _
    (too_few_for_units c.args.width c.args.bytes.now c.u32.new.self c.u16.new.self c.u8.new.self c.in_ok-first.first c.in_ok-count.count
    c.in_ok-kind.kind (search rules) (search rules) (search rules) c.if-kind-eq-SHARED.false (search rules))

pub returns-clause-some : goal.returns-clause-some
returns-clause-some c =
    let r1 : ReadsNumber (from_le_bytes w32) (to_le_bytes w32) c.args.bytes.now c.u32.new.self c.in_ok-first.first = search rules in
    let r2 : ReadsNumber (from_le_bytes w16) (to_le_bytes w16) c.u32.new.self c.u16.new.self c.in_ok-count.count = search rules in
    let r3 : c.u16.new.self ≡ c.in_ok-kind.kind ∷ c.u8.new.self = search rules in
    elim c.if-kind-eq-SHARED.branch [
      | then-kind-eq-SHARED+in_ok-start w ↦
          subst (λ s. IsHeadOf c.args.width c.args.bytes.now (record { first = c.in_ok-first.first; count = c.in_ok-count.count; start = s })) (sym w.start-is)
          (head_on_slot c.args.width c.args.bytes.now c.u32.new.self c.u16.new.self c.u8.new.self c.in_ok-first.first c.in_ok-count.count
          c.in_ok-kind.kind r1 r2 r3 w.if-kind-eq-SHARED.true w.in_ok-start.start w.in_ok-start.ensures)
      | else-kind-eq-SHARED+in_ok-start-2 w ↦
          subst (λ s. IsHeadOf c.args.width c.args.bytes.now (record { first = c.in_ok-first.first; count = c.in_ok-count.count; start = s })) (sym w.start-is)
          (head_on_unit c.args.width c.args.bytes.now c.u32.new.self c.u16.new.self c.u8.new.self c.in_ok-first.first c.in_ok-count.count
          c.in_ok-kind.kind r1 r2 r3 w.if-kind-eq-SHARED.false w.in_ok-start-2.start w.in_ok-start-2.ensures)
    ]

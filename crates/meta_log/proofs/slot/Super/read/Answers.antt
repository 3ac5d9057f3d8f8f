use Rattle.std.proofs.Common.{List, ℕ, ◌%◌, ◌++◌, refl, sym, ap, subst, ◌∙◌, arith}
use Rattle.byte_maps.specs.Units.{zeros}
use Rattle.meta_log.specs.declared.slot.Super.{Super}
use Rattle.meta_log.proofs.SlotLemmas.{HasWidths, length-super_fields}
use Rattle.meta_log.proofs.SlotReading.{all_of_zeros, body_of, only_super, is_slot}
use Rattle.meta_log.proofs.slot.Super.read.Goals as goal
use Rattle.meta_log.proofs.slot.Super.read.Goals.{else-is_within_limits-via-then-is_within_limits+then-found-from+else-is_zero, else-is_within_limits-via-then-is_within_limits+else-found-from, else-is_within_limits-via-else-is_within_limits}
use Rattle.meta_log.specs.Prelude.{super_front, super_fields, IsSuper}

pub returns-in_err-summed : goal.returns-in_err-summed
returns-in_err-summed c = rw c.from_residual.ensures (λ s is. c.in_err-summed.ensures (super_fields s) (record { size = length-super_fields s; spelled = is.spelled }))

pub returns-in_err-found : goal.returns-in_err-found
returns-in_err-found c =
    rw c.from_residual-in_err-found.ensures (λ s is.
    c.in_err-found.ensures s (zeros 4052) (c.new-fields.ensures ∙ body_of c.args.unit.now c.in_ok-summed.field-0.now s c.args.slot c.in_ok-summed.ensures is))

pub returns-then-is_zero : goal.returns-then-is_zero
returns-then-is_zero c =
    is_slot c.args.unit.now c.in_ok-summed.field-0.now c.rest.result.now c.in_ok-found.found c.args.slot c.in_ok-summed.ensures
    (sym c.new-fields.ensures ∙ c.in_ok-found.ensures ∙ ap (λ (rest : List ℕ). super_front c.in_ok-found.found ++ rest) (sym c.rest.ensures))
    (c.if-is_within_limits.ensures.0 refl)
    (c.if-found-from.true ∙ c.from.ensures)
    (c.if-is_zero.ensures.0 refl)

pub returns-else-is_within_limits : goal.returns-else-is_within_limits
returns-else-is_within_limits c = λ s is.
    let wide : HasWidths c.in_ok-found.found = record { units = omega arith; half = omega arith; prefer = omega arith; epoch = omega arith; first = omega arith } in
    let only = only_super c.args.unit.now c.in_ok-summed.field-0.now c.read_front.new.fields c.in_ok-found.found s c.args.slot wide c.in_ok-summed.ensures
    (sym c.new-fields.ensures ∙ c.in_ok-found.ensures) is in
    elim c.else-is_within_limits.branch [
      | else-is_within_limits-via-then-is_within_limits+then-found-from+else-is_zero w ↦ (let zero = w.if-is_zero.ensures.1 (all_of_zeros 4052 w.rest.result.now (w.rest.ensures ∙ only.1)) in cc)
      | else-is_within_limits-via-then-is_within_limits+else-found-from w ↦ w.if-found-from.false (ap (λ (t : Super). t.epoch % 2) only.0 ∙ is.own_epoch ∙ sym w.from.ensures)
      | else-is_within_limits-via-else-is_within_limits w ↦ (let good = w.if-is_within_limits.ensures.1 (subst IsSuper (sym only.0) is.limits) in cc)
    ]

use Rattle.std.proofs.Common.{◌≡◌, ◌+◌, ◌≤◌, length, set, sym, ap, ◌∙◌, arith, Some}
use Rattle.std.specs.Prelude.{slice_get}
use Rattle.row_format.specs.Prelude.{Slot}
use Rattle.plan_rows.specs.Prelude.{with_one_less}
use Rattle.shared_blobs.specs.Blob.{Blob}
use Rattle.shared_blobs.proofs.Slots.{less_past, get_at, less_at, freed_none, freed_some, freed_other, other}
use Rattle.shared_blobs.proofs.shared_blob.SharedBlob.put.Goals.{then-slot-eq1, else-slot-eq1}
use Rattle.shared_blobs.proofs.shared_blob.SharedBlob.put.Goals as goal

pub returns-then-at-len-clause-blob : goal.returns-then-at-len-clause-blob
returns-then-at-len-clause-blob c =
    let b : Blob = c.args.self.now in
    let le : length b.slots ≤ c.args.index = omega (arith, c.if-at-len.true, c.len.ensures, c.from-at.ensures, ap (λ (z : Blob). length z.slots) c.self.view_is) in
    λ i. record { first = b.first; slots = sym (less_past b.slots c.args.index le) i }

pub returns-then-at-len-clause-freed : goal.returns-then-at-len-clause-freed
returns-then-at-len-clause-freed c =
    freed_none c.args.self.now c.args.index
    (omega (arith, c.if-at-len.true, c.len.ensures, c.from-at.ensures, ap (λ (z : Blob). length z.slots) c.self.view_is))

pub returns-clause-blob : goal.returns-clause-blob
returns-clause-blob c =
    let first = ap (λ (z : Blob). z.first) c.self.view_is in
    let slots = ap (λ (z : Blob). z.slots) c.self.view_is in
    let made = ap (set c.self.inside.slots.items c.from-at.result) c.lowered.ensures
    ∙ less_at c.self.inside.slots.items c.from-at.result c.index-slot.result.now (omega (arith, c.if-at-len.false, c.len.ensures)) c.index-slot.ensures
    ∙ (λ i. with_one_less (slots i) (c.from-at.ensures i)) in
    λ i. record { first = first i; slots = made i }

pub returns-clause-freed : goal.returns-clause-freed
returns-clause-freed c =
    let slots = ap (λ (z : Blob). z.slots) c.self.view_is in
    let stands : slice_get c.args.self.now.slots c.args.index ≡ Some c.index-slot.result.now = (λ i. slice_get (sym slots i) (sym c.from-at.ensures i))
    ∙ get_at c.self.inside.slots.items c.from-at.result c.index-slot.result.now (omega (arith, c.if-at-len.false, c.len.ensures)) c.index-slot.ensures in
    let counts : c.slot.inside.count ≡ c.index-slot.result.now.count = ap (λ (z : Slot). z.count) c.slot.view_is in
    elim c.if-slot-eq1.branch [
      | then-slot-eq1 w ↦ w.result-is
          ∙ ap Some (w.new.ensures ∙ (λ i. (w.number.ensures ∙ ap (λ (z : Blob). z.first) c.self.view_is) i + w.from.ensures i))
          ∙ freed_some c.args.self.now c.args.index c.index-slot.result.now stands (omega (arith, w.if-slot-eq1.true, counts))
      | else-slot-eq1 w ↦ w.result-is
          ∙ freed_other c.args.self.now c.args.index c.index-slot.result.now stands
          (other c.index-slot.result.now.count (λ e. absurd (w.if-slot-eq1.false (counts ∙ e))))
    ]

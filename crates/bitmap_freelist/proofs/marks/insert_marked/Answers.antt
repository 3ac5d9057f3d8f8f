use Rattle.std.proofs.Common.{◌≡◌, ◌+◌, ◌*◌, ◌<◌, true, false, true≢false, sym, subst, ◌∙◌}
use Rattle.std.specs.FinSet as set
use Rattle.bitmap_freelist.specs.Masks.{AddsUpTo}
use Rattle.bitmap_freelist.proofs.Reading.{add_one, skip_one}
use Rattle.bitmap_freelist.proofs.marks.insert_marked.Goals as goal
use Rattle.bitmap_freelist.proofs.marks.insert_marked.Goals.{then-is_one+in_ok-insert, else-is_one}

pub loop-place-preserved : goal.loop-place-preserved
loop-place-preserved c =
    let below : c.loop-place.place < 128 = assumption (c.loop-place-test) in
    elim c.if-is_one.branch [
      | then-is_one+in_ok-insert w ↦
          let one : c.is_one.result ≡ true = assumption (w.if-is_one) in
          let is : w.insert.new.self ≡ set.insert c.loop-place.units (128 * c.args.row + c.loop-place.place) = w.in_ok-insert.ensures.ok in
          let added = add_one c.args.row c.args.value.now c.args.units.now c.loop-place.units c.loop-place.place below c.loop-place.invariant
          (c.is_one.ensures.0 one) in
          subst (AddsUpTo (c.loop-place.place + 1) c.args.row c.args.value.now c.args.units.now) (sym is ∙ sym w.units-is) added
      | else-is_one w ↦
          let zero_there : c.is_one.result ≡ false = assumption (w.if-is_one) in
          let kept = skip_one c.args.row c.args.value.now c.args.units.now c.loop-place.units c.loop-place.place below c.loop-place.invariant
          (λ e. true≢false (sym (c.is_one.ensures.1 e) ∙ zero_there)) in
          subst (AddsUpTo (c.loop-place.place + 1) c.args.row c.args.value.now c.args.units.now) (sym w.units-is) kept
    ]

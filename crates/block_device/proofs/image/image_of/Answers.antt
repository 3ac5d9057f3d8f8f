use Rattle.std.proofs.Common.{◌≡◌, ℕ, length, ap, refl, ◌∙◌, subst, arith}
use Rattle.std.specs.Prelude.{slice_get, Some}
use Rattle.std.proofs.lemmas.List.{with_items_is, length-replicate}
use Rattle.block_device.specs.Prelude.{noise}
use Rattle.block_device.specs.declared.event.Event.TheVariants.{Write}
use Rattle.block_device.proofs.ImageLemmas.{IsImageUpTo, image_start, image_write, image_other, image_all, image_filled, torn_is_crash}
use Rattle.block_device.proofs.LogLemmas.{slice_get-is}
use Rattle.block_device.proofs.Places.{stable_tested}
use Rattle.block_device.proofs.image.image_of.Goals as goal
use Rattle.block_device.proofs.image.image_of.Goals.{in-Write, in_default, in-Noise, in_default-tear}

pub loop-place-init : goal.loop-place-init
loop-place-init c = image_start c.args.tear c.requires.whole.0 _ c.args.start.now _ c.args.log.now _ c.requires.whole.1 c.in_ok-image.ensures refl c.in_ok-torn.ensures

pub put-requires-clause-whole : goal.put-requires-clause-whole
put-requires-clause-whole c =
    let there : slice_get c.args.log.now c.loop-place.place ≡ Some (Write c.in-Write.at c.in-Write.bytes) = slice_get-is c.args.log.now c.loop-place.place c.index-log-place.result c.loop-place-test.true c.index-log-place.is ∙ ap (λ e. Some e) c.in-Write.is in
    let whole = c.requires.fits c.loop-place.place (Write c.in-Write.at c.in-Write.bytes) there in
    (whole.1, ap length c.as_slice.ensures ∙ whole.2)

pub put-requires-clause-inside : goal.put-requires-clause-inside
put-requires-clause-inside c =
    let there : slice_get c.args.log.now c.loop-place.place ≡ Some (Write c.in-Write.at c.in-Write.bytes) = slice_get-is c.args.log.now c.loop-place.place c.index-log-place.result c.loop-place-test.true c.index-log-place.is ∙ ap (λ e. Some e) c.in-Write.is in
    let whole = c.requires.fits c.loop-place.place (Write c.in-Write.at c.in-Write.bytes) there in
    omega (arith, whole.0, ap length c.as_slice.ensures, ap length c.deref_mut.ensures.value, c.loop-place.invariant.size)

pub loop-place-preserved : goal.loop-place-preserved
loop-place-preserved c = elim c.match-event.branch [
  | in-Write w ↦
      let put = rw (w.deref_mut.ensures.value, w.deref_mut-in-Write.ensures.value, w.as_slice.ensures) at w.put.ensures in
      let next = image_write c.args.tear c.loop-place.place c.args.start.now c.args.log.now w.in-Write.at w.in-Write.bytes c.loop-place.image.items _ c.loop-place.torn.items _ c.index-log-place.result w.is_stable.result
      c.loop-place.invariant c.loop-place-test.true c.index-log-place.is w.in-Write.is (stable_tested w.is_stable.result c.args.log.now c.loop-place.place w.is_stable.ensures) put in
      let image : c.match-event.image.items ≡ w.put.new.image = ap (λ v. v.items) w.image-is ∙ with_items_is c.loop-place.image w.put.new.image (omega (arith, put.size)) in
      let torn : c.match-event.torn.items ≡ w.put.new.torn = ap (λ v. v.items) w.torn-is ∙ with_items_is c.loop-place.torn w.put.new.torn (omega (arith, put.marks)) in
      rw (image, torn) next
  | in_default w ↦
      rw (w.image-is, w.torn-is) (image_other c.args.tear c.loop-place.place c.args.start.now c.args.log.now c.loop-place.image.items c.loop-place.torn.items c.index-log-place.result c.loop-place.invariant c.loop-place-test.true c.index-log-place.is w.in_default.not-Write)
]

length-noise : length noise ≡ 4096
unfolding noise
length-noise = length-replicate {A = ℕ} 4096 0xA5

pub fill_torn-requires-clause-filling : goal.fill_torn-requires-clause-filling
fill_torn-requires-clause-filling c = ap length c.deref-in-Noise.ensures.value ∙ ap length c.in_ok-noise.ensures ∙ length-noise

pub returns-clause-torn : goal.returns-clause-torn
returns-clause-torn c = elim c.match-tear.branch [
  | in-Noise w ↦
      let size : length w.fill_torn.new.image ≡ length c.loop-place.image.items = omega (arith, w.fill_torn.ensures.size, ap length w.deref_mut-in-Noise.ensures.value) in
      let others = rw (w.deref_mut-in-Noise.ensures.value, w.deref.ensures.value) at w.fill_torn.ensures.others in
      let filled = rw (w.deref.ensures.value, w.deref-in-Noise.ensures.value, c.in_ok-noise.ensures) at w.fill_torn.ensures.filled in
      let image : c.match-tear.image.items ≡ w.fill_torn.new.image = ap (λ v. v.items) w.image-is ∙ with_items_is c.loop-place.image w.fill_torn.new.image (omega (arith, size)) in
      let up_to = subst (λ t. IsImageUpTo t c.loop-place.place c.args.start.now c.args.log.now c.loop-place.image.items c.loop-place.torn.items) w.in-Noise.is c.loop-place.invariant in
      rw (image, w.in-Noise.is) (image_filled c.loop-place.place c.args.start.now c.args.log.now c.loop-place.image.items w.fill_torn.new.image c.loop-place.torn.items c.loop-place-test.false up_to size others filled)
  | in_default-tear w ↦ rw w.image-is (image_all c.args.tear c.loop-place.place c.args.start.now c.args.log.now c.loop-place.image.items c.loop-place.torn.items w.in_default-tear.not-Noise c.loop-place-test.false c.loop-place.invariant)
]

pub returns-clause-crash : goal.returns-clause-crash
returns-clause-crash c = torn_is_crash c.args.tear c.requires.whole.0 c.args.start.now c.args.log.now _ c.requires.whole.1 c.requires.fits (returns-clause-torn c)

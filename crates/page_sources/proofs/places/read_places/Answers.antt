use Rattle.std.proofs.Common.{◌≡◌, ◌∷◌, [], ◌++◌, rules}
use Rattle.write_buffers.specs.Prelude.{memory_in}
use Rattle.page_sources.specs.Prelude.{GivesPlaces, IsPlacesFail}
use Rattle.page_sources.proofs.PartLemmas.{handed_on}
use Rattle.page_sources.proofs.PlaceLemmas.{one_place_more, fails_behind_places}
use Rattle.page_sources.proofs.places.read_places.Goals as goal

pub loop-place-preserved : goal.loop-place-preserved
loop-place-preserved g c =
    let memory = memory_in c.args.buffers.now in
    let d = g.D.Device.disk c.args.device.now in
    let r = c.in_ok-read_place.field-0 in
    let grown : c.push.new.self ≡ c.loop-place.read ++ r ∷ [] = search rules in
    let one : GivesPlaces memory d (c.place-item.result ∷ []) (r ∷ []) = search rules in (
      search rules,
      search rules,
      one_place_more memory d c.args.places.now c.loop-place.place-index c.place-item.result c.loop-place.read c.push.new.self r c.loop-place-test.true
          c.place-item.is grown c.loop-place.invariant.2 one,
    )

pub returns-in_err-read_place-clause-bad : goal.returns-in_err-read_place-clause-bad
returns-in_err-read_place-clause-bad g c =
    let memory = memory_in c.args.buffers.now in
    let d = g.D.Device.disk c.args.device.now in
    let why = c.in_err-read_place.field-0.0 in
    handed_on (IsPlacesFail memory d c.args.places.now) c.from_residual.result why c.from_residual.ensures
    (fails_behind_places memory d c.args.places.now c.loop-place.place-index c.place-item.result c.loop-place.read why c.loop-place-test.true
    c.place-item.is c.loop-place.invariant.2 (search rules))

use Rattle.std.proofs.Common.{◌≡◌, ◌∷◌, [], None, replicate, rules, refl}
use Rattle.block_device.specs.Prelude.{HasRead}
use Rattle.write_buffers.specs.Prelude.{memory_in}
use Rattle.page_sources.specs.Prelude.{AreSums, IsPlacesFail}
use Rattle.page_sources.proofs.PartLemmas.{handed_on}
use Rattle.page_sources.proofs.PlaceLemmas.{unit_given, unit_fails}
use Rattle.page_sources.proofs.places.read_place.Goals as goal

pub returns-in_err-read_units-clause-fail : goal.returns-in_err-read_units-clause-fail
returns-in_err-read_units-clause-fail g c =
    let memory = memory_in c.args.buffers.now in
    let d = g.D.Device.disk c.args.device.now in
    let place = c.place.inside in
    let away : memory_in c.args.buffers.now c.number-at.result ≡ None = search rules in
    let why = c.in_err-read_units.field-0.0 in
    handed_on (IsPlacesFail memory d (c.args.place ∷ [])) c.from_residual-in_err-read_units.result why c.from_residual-in_err-read_units.ensures
    (unit_fails memory d c.args.place place.unit place.csum c.number-at.result (replicate 64 c.place.inside.csum) why c.place.view_is c.number-at.ensures away refl
    c.in_err-read_units.ensures.fail)

pub returns-clause-ok : goal.returns-clause-ok
returns-clause-ok g c =
    let memory = memory_in c.args.buffers.now in
    let d = g.D.Device.disk c.args.device.now in
    let place = c.place.inside in
    let sums = replicate 64 c.place.inside.csum in
    let away : memory_in c.args.buffers.now c.number-at.result ≡ None = search rules in
    let same : c.in_ok-bytes-2.bytes ≡ c.read_units.new.part.items = search rules in
    let read : HasRead d c.number-at.result 1 c.in_ok-bytes-2.bytes = search rules in
    let are : AreSums 1 c.in_ok-bytes-2.bytes (replicate 64 c.place.inside.csum) = search rules in
    unit_given memory d c.args.place place.unit place.csum c.number-at.result c.in_ok-bytes-2.bytes sums c.place.view_is c.number-at.ensures away refl read are

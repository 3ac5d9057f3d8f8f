use Rattle.std.proofs.Common.{◌-◌, arith}
use Rattle.write_buffers.specs.Prelude.{memory_in}
use Rattle.page_sources.specs.Parts.{IsPartFail}
use Rattle.page_sources.proofs.PartLemmas.{run_free, good_holes, good_units, on_units, sums_checked, hole_sums, units_fail, fails_of_more, handed_on, good_copy, copy_sums}
use Rattle.page_sources.proofs.parts.read_part.Goals as goal

pub read_units-requires-clause-free : goal.read_units-requires-clause-free
read_units-requires-clause-free g c =
    let pages = c.args.pages.now in
    let at = c.in-Units.at in
    let kept = c.in-Units.ensures.run.2 in
    run_free (memory_in c.args.buffers.now) (g.D.Device.disk c.args.device.now) pages c.args.first at c.in-Units.count c.requires.can
    (on_units pages c.args.first at c.in-Units.count c.run_from.new.sums kept) c.in-Units.ensures.run.3 c.in-Units.ensures.run.0

pub returns-in_err-read_units-in-Units-clause-fail : goal.returns-in_err-read_units-in-Units-clause-fail
returns-in_err-read_units-in-Units-clause-fail g c =
    let d = g.D.Device.disk c.args.device.now in
    let pages = c.args.pages.now in
    let first = c.args.first in
    let count = c.in-Units.count in
    let why = c.in_err-read_units-in-Units.field-0.0 in
    handed_on (IsPartFail (memory_in c.args.buffers.now) d pages first (c.args.end - first)) c.from_residual-in_err-read_units-in-Units.result why
    c.from_residual-in_err-read_units-in-Units.ensures
    (fails_of_more (memory_in c.args.buffers.now) d pages first count (c.args.end - first) why (omega (arith, c.in-Units.ensures.run.1))
    (units_fail (memory_in c.args.buffers.now) d pages first c.in-Units.at count c.run_from.new.sums why c.in-Units.ensures.run.2 c.in-Units.ensures.run.3 c.in-Units.ensures.run.0
    c.in_err-read_units-in-Units.ensures.fail))

pub returns-in_ok-lay_zeros-in-Hole-clause-good : goal.returns-in_ok-lay_zeros-in-Hole-clause-good
returns-in_ok-lay_zeros-in-Hole-clause-good g c =
    good_holes (memory_in c.args.buffers.now) (g.D.Device.disk c.args.device.now) c.args.pages.now c.args.first c.in-Hole.count c.lay_zeros.new.part.items c.in-Hole.ensures.run.2
    c.in_ok-lay_zeros-in-Hole.ensures

pub returns-in_ok-lay_zeros-in-Hole-clause-sums : goal.returns-in_ok-lay_zeros-in-Hole-clause-sums
returns-in_ok-lay_zeros-in-Hole-clause-sums g c =
    hole_sums c.in-Hole.count c.lay_zeros.new.part.items c.run_from.new.sums c.in_ok-lay_zeros-in-Hole.ensures c.in-Hole.ensures.run.3

pub returns-in_ok-read_units-in-Units-clause-good : goal.returns-in_ok-read_units-in-Units-clause-good
returns-in_ok-read_units-in-Units-clause-good g c =
    let pages = c.args.pages.now in
    let count = c.in-Units.count in
    let bytes = c.read_units.new.part.items in
    let sums = c.run_from.new.sums in
    let kept = c.in-Units.ensures.run.2 in
    good_units (memory_in c.args.buffers.now) (g.D.Device.disk c.args.device.now) pages c.args.first c.in-Units.at count bytes (on_units pages c.args.first c.in-Units.at count sums kept)
    c.in-Units.ensures.run.3 c.in_ok-read_units-in-Units.ensures.read
    (sums_checked pages c.args.first c.in-Units.at count count bytes sums (omega arith) kept c.in_ok-read_units-in-Units.ensures.good)

pub returns-in_ok-copy_page-in-InMemory-clause-good : goal.returns-in_ok-copy_page-in-InMemory-clause-good
returns-in_ok-copy_page-in-InMemory-clause-good g c =
    good_copy (memory_in c.args.buffers.now) (g.D.Device.disk c.args.device.now) c.args.pages.now c.args.first c.in-InMemory.unit
    c.copy_page.new.part.items c.requires.can c.in-InMemory.ensures.run.0 c.in_ok-copy_page-in-InMemory.ensures.bytes

pub returns-in_ok-copy_page-in-InMemory-clause-sums : goal.returns-in_ok-copy_page-in-InMemory-clause-sums
returns-in_ok-copy_page-in-InMemory-clause-sums g c =
    copy_sums (memory_in c.args.buffers.now) (g.D.Device.disk c.args.device.now) c.args.pages.now c.in-InMemory.unit c.copy_page.new.part.items
    c.copy_page.new.sums c.requires.can c.in_ok-copy_page-in-InMemory.ensures.bytes c.in_ok-copy_page-in-InMemory.ensures.sum

use Rattle.std.proofs.Common.{ap, ◌∙◌}
use Rattle.byte_maps.specs.Units.{units_for}
use Rattle.meta_log.proofs.SealLemmas.{filled_up}
use Rattle.meta_log.proofs.sealed.fill.Goals as goal

pub returns : goal.returns
returns c =
    filled_up c.resize.result c.args.bytes.now.items c.resize.new.self.items c.units_of-units.result c.args.bytes.now.len (c.units_of-units.ensures
    ∙ ap units_for (c.len.ensures ∙ c.args.bytes.now.ok.0)) c.args.bytes.now.ok.0 c.resize.ensures.items

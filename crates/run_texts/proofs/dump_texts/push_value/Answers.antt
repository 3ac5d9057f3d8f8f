use Rattle.std.proofs.Common.{ap}
use Rattle.script_text.specs.Prelude.{escaped}
use Rattle.run_texts.specs.Hex.{hex_or_dash}
use Rattle.run_texts.proofs.Adding.{both, said}
use Rattle.run_texts.proofs.dump_texts.push_value.Goals as goal

pub returns : goal.returns
returns g c =
    both (both (both (both c.push_str.ensures (said (ap escaped c.as_slice.ensures.bytes) c.push_name.ensures)) c.push_str-2.ensures)
    (said (ap hex_or_dash c.as_slice-2.ensures) c.push_hex_or_dash.ensures)) c.push_str-3.ensures

use Rattle.script_text.proofs.Groups.{lines_fit}
use Rattle.script_text.proofs.laws.each_line_fits.Goals as goal

pub returns : goal.returns
returns c = lines_fit

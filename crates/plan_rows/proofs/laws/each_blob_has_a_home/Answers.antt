use Rattle.plan_rows.proofs.Homes.{have_homes}
use Rattle.plan_rows.proofs.laws.each_blob_has_a_home.Goals as goal

pub returns : goal.returns
returns c = have_homes

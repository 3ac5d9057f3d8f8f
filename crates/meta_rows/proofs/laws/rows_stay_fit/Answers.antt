use Rattle.meta_rows.proofs.FitLemmas.{fit_none, fit_still}
use Rattle.meta_rows.proofs.laws.rows_stay_fit.Goals as goal

pub returns : goal.returns
returns c = record { none = fit_none; after = fit_still }

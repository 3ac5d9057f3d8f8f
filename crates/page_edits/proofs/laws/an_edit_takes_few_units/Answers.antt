use Rattle.page_edits.proofs.Counts.{few_units, units_within, units_of_payload}
use Rattle.page_edits.proofs.laws.an_edit_takes_few_units.Goals as goal

pub returns-clause-few : goal.returns-clause-few
returns-clause-few c = few_units

pub returns-clause-most : goal.returns-clause-most
returns-clause-most c = units_within

pub returns-clause-small : goal.returns-clause-small
returns-clause-small c = units_of_payload

use Rattle.space_facts.proofs.Within.{rows_units-after, rows_units-records, rows_units-bytes, check_units_are}
use Rattle.space_facts.proofs.laws.rows_are_no_longer_than_records.Goals as goal

pub returns-clause-after : goal.returns-clause-after
returns-clause-after c = rows_units-after

pub returns-clause-made : goal.returns-clause-made
returns-clause-made c = rows_units-records

pub returns-clause-bytes : goal.returns-clause-bytes
returns-clause-bytes c = rows_units-bytes

pub returns-clause-check : goal.returns-clause-check
returns-clause-check c = check_units_are

use Rattle.run_facts.proofs.Kept.{kept_accept, kept_refuse, kept_read}
use Rattle.run_facts.proofs.laws.transactions_keep.Goals as goal

pub returns-clause-accepted : goal.returns-clause-accepted
returns-clause-accepted c = λ client line change s s' d plans. kept_accept plans s s' d client line change

pub returns-clause-refused : goal.returns-clause-refused
returns-clause-refused c = λ client line change a s s' d. kept_refuse s s' d client line change a

pub returns-clause-read : goal.returns-clause-read
returns-clause-read c = λ client line command s s' d. kept_read s s' d client line command

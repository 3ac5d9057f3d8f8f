use Rattle.space_facts.proofs.Spaces.{counted_joined, counted_committed}
use Rattle.space_facts.proofs.laws.space_stays_counted.Goals as goal

pub returns-clause-submitted : goal.returns-clause-submitted
returns-clause-submitted c = counted_joined

pub returns-clause-committed : goal.returns-clause-committed
returns-clause-committed c = λ sup rows batch pending space limits good each apart homes has counted.
    counted_committed sup rows batch pending good each apart homes limits space has counted

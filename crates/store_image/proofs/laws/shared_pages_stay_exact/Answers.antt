use Rattle.store_image.specs.Prelude.{IsLeaked}
use Rattle.store_image.proofs.ShareLemmas.{stays_exact}
use Rattle.store_image.proofs.laws.shared_pages_stay_exact.Goals as goal

pub returns : goal.returns
returns c w first rows later coll o from unit count sbid becomes exact =
    stays_exact w rows later coll o from unit count sbid becomes (IsLeaked w first) exact

use Rattle.store_image.proofs.OneObjects.{stands_for_one as proof}
use Rattle.store_image.proofs.laws.stands_for_one.Goals as goal

pub returns : goal.returns
returns c = proof

use Rattle.store_image.proofs.PageMap.{one_place}
use Rattle.store_image.proofs.laws.one_place_for_a_page.Goals as goal

pub returns : goal.returns
returns c s rows good coll o page a b p q = one_place s rows good coll o page a b p q

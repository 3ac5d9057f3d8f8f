use Rattle.store_image.proofs.PageUnits.{bytes_alike}
use Rattle.store_image.proofs.laws.pages_decide_bytes.Goals as goal

pub returns : goal.returns
returns c = bytes_alike

use Rattle.store_image.proofs.StartLemmas.{start_is_durable}
use Rattle.store_image.proofs.laws.a_start_is_durable.Goals as goal

pub returns : goal.returns
returns c = start_is_durable

use Rattle.std.proofs.Common.{rules}
use Rattle.std.proofs.lemmas.Nat.{be_bytes_8}
use Rattle.unit_fields.proofs.fields.u64_from_be.Goals as goal

pub returns-clause-spelled : goal.returns-clause-spelled
returns-clause-spelled c = be_bytes_8 c.args.bytes c.from_be_bytes.result (search rules) (λ i. search rules) c.from_be_bytes.ensures

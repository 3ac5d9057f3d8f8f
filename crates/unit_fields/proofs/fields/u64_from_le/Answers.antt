use Rattle.std.proofs.Common.{rules}
use Rattle.std.proofs.lemmas.Nat.{le_bytes_8}
use Rattle.unit_fields.proofs.fields.u64_from_le.Goals as goal

pub returns-clause-spelled : goal.returns-clause-spelled
returns-clause-spelled c = le_bytes_8 c.args.bytes c.from_le_bytes.result (search rules) (λ i. search rules) c.from_le_bytes.ensures

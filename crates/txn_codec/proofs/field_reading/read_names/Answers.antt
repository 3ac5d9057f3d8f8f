use Rattle.std.proofs.Common.{inl, inr}
use Rattle.txn_codec.proofs.FieldReading.{passed_on}
use Rattle.txn_codec.proofs.field_reading.read_names.Goals as goal

pub returns-in_err-first : goal.returns-in_err-first
returns-in_err-first c = passed_on _ _ _ _ c.from_residual.ensures (λ is. inl (c.in_err-first.ensures is))

pub returns-in-Err : goal.returns-in-Err
returns-in-Err c same =
    inr (record { mid = c.read_name.new.fields; first = c.in_ok-first.first; one = c.in_ok-first.ensures; none = c.in-Err.ensures same })

pub returns-in-Ok : goal.returns-in-Ok
returns-in-Ok c = record { mid = c.read_name.new.fields; one = c.in_ok-first.ensures; other = c.in-Ok.ensures }

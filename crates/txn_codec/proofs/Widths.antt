-- What has a spelling has counts and lengths that fit.
use Rattle.std.proofs.Common.{List, [], ◌∷◌}
use Rattle.std.specs.List.{AllByRecursion}
use Rattle.object_model.specs.Prelude.{Change}
use Rattle.object_model.specs.declared.op.Op.{Op}
use Rattle.object_model.specs.declared.op.Pair.{Pair}
use Rattle.txn_codec.specs.Prelude.{Field, Name, Number, Value, Keys, Pairs, fields_of, FitsPair, FitsField, FitsOp, FitsTransaction, HasShortValues, HasWidth, HaveWidth, IsEncodable}

short_values : (pairs : List Pair) → AllByRecursion FitsPair pairs → HasShortValues pairs
short_values [] fit = tt
short_values (pair ∷ pairs) fit = (fit.0.value, short_values pairs fit.1)

has_width : (f : Field) → FitsField f → HasWidth f
has_width (Name name) fits = tt
has_width (Number n) fits = tt
has_width (Value value) fits = fits
has_width (Keys keys) fits = fits.count
has_width (Pairs pairs) fits = (fits.count, short_values pairs fits.each)

have_width : (fs : List Field) → AllByRecursion FitsField fs → AllByRecursion HasWidth fs
have_width [] fit = tt
have_width (f ∷ fs) fit = (has_width f fit.0, have_width fs fit.1)

ops_have_width : (ops : List Op) → AllByRecursion FitsOp ops → AllByRecursion HaveWidth ops
ops_have_width [] fit = tt
ops_have_width (op ∷ ops) fit = (have_width (fields_of op) fit.0, ops_have_width ops fit.1)

pub encodable : (t : Change) → FitsTransaction t → IsEncodable t
encodable t fits = record { count = fits.ops.count.most; fields = ops_have_width t.ops fits.ops.each }

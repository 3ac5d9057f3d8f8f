-- What other crates and the proofs cite, passed on from one place.
pub use Rattle.txn_codec.specs.Spelling.{Field, Name, Number, Value, Keys, Pairs, op_form, code_of, fields_of, name_bytes, number_bytes, count_bytes, pair_bytes, list_bytes, field_bytes, txn_op_bytes, transaction_bytes, FitsNumber, IsCount, FitsPair, FitList, FitsField, FitsOp, FitsTransaction, HasShortValues, HasWidth, HaveWidth, IsEncodable}
pub use Rattle.txn_codec.specs.Reading.{GivesFront, ReadsNames, LacksSecond, LacksNames, ReadsFirst, HasNoFirst, ReadsBody, AddsOp, AddsSpelling, AddsForm, SpellsTransaction, IsTransactionFront}

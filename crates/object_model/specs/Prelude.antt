-- What other crates and the proofs cite, passed on from one place.
pub use Rattle.object_model.specs.Objects.{Object, Collection, Objects, empty_object, coded_object}
pub use Rattle.object_model.specs.Effect.{object_limit, resized, overwritten, with_pairs, without_keys, without_range, any_value_long, Outcome, unless, making, is_same, effect_on, effect, ◌>>=◌, effects, with_collection, Change, names_of, is_named, any_named, changes_on, OneName, HaveOneName, transaction_effect, ok_or, replay, object_under}
pub use Rattle.object_model.specs.Limits.{payload_limit, payload_of_pairs, payload_of_keys, payload_of, is_too_large, submitted_effect}
pub use Rattle.object_model.specs.Reply.{accepted_if, answer_from, found_collection, found_object, answer_of_object, value_of, read_reply, reply_of}
pub use Rattle.object_model.specs.Book.{accepted_change, accepted, is_refused, is_of_device, IsAnswered, AnswersFrom, change_at, committed, is_on, places_from, entry_places, committed_places, IsPrefixOf, AreAckedFrom, is_acknowledged, acked_count, AreCountsWithin, IsLegal, IsAckedBy, HasAcked}

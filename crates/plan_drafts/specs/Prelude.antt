-- What other crates and the proofs cite, passed on from one place.
pub use Rattle.plan_rows.specs.Difference.{Changes, KeysAscend, IsDifference}
pub use Rattle.plan_drafts.specs.Edits.{covers_whole, pages_touched, page_after, Edit, end_of, grown, edit_of, is_there, has_bytes_of, is_touched, fate_there, fate_in, fate_of, is_left, is_hole, gets_bytes, takes_unit, needs_old, is_cleared, pages_put, pages_taking, place_read, places_read, units_released, slots_released, with_takings, drafted, page_unit, bytes_read, old_bytes_in, Held, old_page, taking_of, page_written, writes_of, with_writes, EndsBelow, HoldBytes, bytes_after, IsInLimits}
pub use Rattle.plan_drafts.specs.Layouts.{IsSizeOf, missing, there, IsMapOf, Layout, HasLayout, or_empty, IsKeyOf, size_at, extents_at, AreCut, GetsShards, stay, cut, GetsLayout, TurnsBits}
pub use Rattle.plan_rows.specs.Values.{ValueKey, attribute, header, pair, value_key, IsValueKey, IsKeyOfValue, value_in, is_among, not_empty, value_after}
pub use Rattle.plan_drafts.specs.Drafts.{IsKnownOp, IsKnown, IsOnColl, IsOnObject, object_of, is_beyond, needs_object, HasNames, or_new, edit_on, pages_left, CollDraft, object_before, draft_after, values_on, units_on, places_on, writes_on, slots_on, there_after, at_name, with_op, with_ops, places_of, held_after, held_by, none_held, IsTakenOn, IsBare, IsTaken, AreTaken, HasSome, IsRefused, exists, absent, occupied, beyond, lost, AreRefused, here, later}
pub use Rattle.plan_drafts.specs.Asks.{draft_of, PlacesStand, Begins, AsksFor, AreReadAt}
pub use Rattle.plan_drafts.specs.Plans.{most_units_of, most_units, place_put, laid, laid_at, IsKeyOfColl, IsKeyOfDraft, GetsDraft, Stands, Leaves, filled, HoldsFresh, IsFreshUnit, StandsOnce, fresh_units, MakesDraft, Plans, AreFreeOver}
pub use Rattle.plan_rows.specs.Names.{IsObjectKind, IsKeyIn, IsKeyOfSome, AreAtHome, AreAtHomeIn, IsKeyOfBlob, IsAboveBlobs, ChangesBlob, MakesBlob, AreMadeAt, AgreeOn, AgreeOnBlobs, AreOf, HaveNoneInCommon}
pub use Rattle.plan_rows.specs.Blobs.{indexes_of, times_in, lowered, with_one_less, with_less, any_named, blob_value, blob_after, IsKeyOfSlot, IsFreed}
pub use Rattle.plan_drafts.specs.Keeps.{IsGood, Suits, OwnsItsUnits, AreWhole, PlanKeeps, HoldsRead, PlanMakes, PlanTakes, PlansKeep, AsksAreFew}

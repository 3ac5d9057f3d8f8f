-- What other crates and the proofs cite, passed on from one place.
pub use Rattle.plan_rows.specs.Difference.{Changes, KeysAscend, IsDifference}
pub use Rattle.plan_rows.specs.Edits.{covers_whole, pages_touched, page_after, Edit, end_of, grown, edit_of, is_cleared, slot_unit, page_unit, bytes_read, old_bytes_in, bytes_after, IsInLimits}
pub use Rattle.plan_rows.specs.Layouts.{IsSizeOf, missing, there, IsMapOf, Layout, HasLayout, or_empty, IsKeyOf, size_at, extents_at, TurnsBits}
pub use Rattle.plan_rows.specs.Values.{ValueKey, attribute, header, pair, value_key, IsValueKey, IsKeyOfValue, value_in, is_among, not_empty, value_after}
pub use Rattle.plan_rows.specs.Blobs.{indexes_of, times_in, lowered, with_one_less, with_less, any_named, blob_value, blob_after, IsKeyOfSlot, IsFreed}
pub use Rattle.plan_rows.specs.Plans.{IsKnownOp, object_of, HasNames, AreFreeOver, HoldsFresh, IsFreshUnit, StandsOnce, fresh_units}
pub use Rattle.plan_rows.specs.Asks.{IsOnColl, AreReadAt}
pub use Rattle.plan_rows.specs.Names.{IsObjectKind, IsKeyIn, IsKeyOfSome, AreAtHome, AreAtHomeIn, IsKeyOfBlob, IsAboveBlobs, ChangesBlob, MakesBlob, AreMadeAt, AgreeOn, AgreeOnBlobs, AreOf, HaveNoneInCommon}
pub use Rattle.plan_rows.specs.Keeps.{IsGood, Suits, OwnsItsUnits, AreWhole, PlanKeeps, HoldsRead, PlanMakes}

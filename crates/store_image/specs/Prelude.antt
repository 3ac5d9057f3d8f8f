-- What other crates and the proofs cite, passed on from one place.
pub use Rattle.store_image.specs.Pages.{HasKey, HasValue, HasRow, HasOnode, HasShard, IsPageAt, PageUnit, HasSlot, StandsOn, IsPageOn, HasPage, IsHole, pages_of}
pub use Rattle.store_image.specs.BadRows.{AreData, IsOnData, IsNamedBy, IsNamedEarlier, HasSlots, IsShardInPlace, HasObject, AreOfData, IsBlank, IsBlobInPlace, IsInPlace, IsGoodRow, IsBadRow, NoBadRow}
pub use Rattle.store_image.specs.Owners.{Owner, page_of, slot_of, Owns, IsOwned, HasSoleOwner, PageName, Names, EachOnce, AreNamers, IsCounted, CountsAreExact, HasWrongCount, IsDataUnit, bit_of, IsMarked, IsLeaked, IsExactBut, IsExact, IsExactAs, IsInexact, IsLeastInexact, IsBusy}
pub use Rattle.store_image.specs.Exact.{IsExactImageBut, IsExactImage, IsLeakedIn, StaysExact}
pub use Rattle.store_image.specs.Stands.{IsObjectShape, IsShape, IsSeen, page_bytes, IsPageSeen, AreObjectBytes, AreBytes, ObjectsStand, StandsFor}
pub use Rattle.store_image.specs.Chance.{HoldsAsWritten, AreAsWritten, IsOutranked, NoChanceMatch, HasDirty, TornAreAsWritten, NoTornMatch}
pub use Rattle.store_image.specs.Durability.{IsStart, LeavesPrefix, EachCutStands}
pub use Rattle.store_image.specs.Sharing.{IsOneOf, BecomeSlots}
pub use Rattle.store_image.specs.Naming.{CountsMove, NamesOneMore, NamesOneLess}

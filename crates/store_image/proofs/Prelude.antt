-- The lemmas that other crates cite, passed on from one place.
pub use Rattle.store_image.proofs.ByteLemmas.{equal_or_not}
pub use Rattle.store_image.proofs.OneObjects.{same_rows}
pub use Rattle.store_image.proofs.OwnedUnits.{objects_stand}
pub use Rattle.store_image.proofs.PageMap.{in_place, one_place}
pub use Rattle.store_image.proofs.PageUnits.{slot_still, stands_still, on_own, blob_there, some_unit, page_owned, owned_page}
pub use Rattle.store_image.proofs.Counting.{one_count}
pub use Rattle.store_image.proofs.ShareLemmas.{number_cases}
pub use Rattle.store_image.proofs.StartLemmas.{start_is_durable}
pub use Rattle.store_image.proofs.ExactLemmas.{renamed, as_itself, is_left_out, exact_onward, no_inexact, as_image, stays_by_rows}
pub use Rattle.store_image.proofs.InPlace.{Carries, carried, good_carried, data_too, none_bad_too, shard_placed}

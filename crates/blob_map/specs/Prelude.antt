-- What other crates and the proofs cite, passed on from one place.
pub use Rattle.blob_map.specs.Pages.{PageMap, csum_of, extent_pages, with_pages, AreNumbered, HasNumbers, IsBodyWithin, FitsPlace, FitsPage, StandsWithin}
pub use Rattle.blob_map.specs.Normal.{alone, single, is_next, follows, longer, more, extents_from, extents_of, extents_finished, IsBehind, NoneJoins}

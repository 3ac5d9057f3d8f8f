-- What other crates and the proofs cite, passed on from one place.
pub use Rattle.page_sources.specs.Found.{unit_with, PagesByRows, unit_found, IsFoundOn, FindUnitsOf, IsRowOfBlob}
pub use Rattle.page_sources.specs.Parts.{part_fail_of, HaveFewUnits, CanRead, AreHoles, IsOnUnit, AreOnUnits, AreKept, AreSums, IsPageRun, IsChecked, AreChecked, IsMismatch, GivesPages, GivesBad, HasPageToRead, IsPartFail, IsUnitsFail}
pub use Rattle.page_sources.specs.Places.{CanReadPlace, CanReadPlaces, GivesPlaces, HasPlaceToRead, IsPlacesFail}

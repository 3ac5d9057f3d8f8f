pub mod Alike
pub mod Homes
pub mod Apart
pub mod Agreeing
pub mod OnData
pub mod Carried
pub mod PlaceUnits

pub mod AllLaws
pub mod BehindShapes
pub mod ConditionsKept
pub mod Listings
pub mod Names

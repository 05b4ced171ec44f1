pub mod AlongList
pub mod Certified
pub mod Certifying
pub mod Examples
pub mod ListPlaces
pub mod ProofsTaken
pub mod SpotsFound
pub mod TakenAll

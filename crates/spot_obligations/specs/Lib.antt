pub mod Obligations
pub mod Owed
pub mod PathsOfEntry
pub mod Spots

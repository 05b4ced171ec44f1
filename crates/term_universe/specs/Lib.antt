pub mod Least
pub mod Limits
pub mod Names
pub mod NewReadings
pub mod Tallies
pub mod Universe
pub mod UniverseLaws
pub mod Walked

pub mod Lookups
pub mod Meeting
pub mod Outcomes
pub mod QuietSaid
pub mod Simulation
pub mod Stopping
pub mod Validity

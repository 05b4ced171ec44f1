pub mod Faults
pub mod Feed
pub mod Intake
pub mod Reading
pub mod Steady
pub mod Writing

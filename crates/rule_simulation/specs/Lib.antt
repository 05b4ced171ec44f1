pub mod Shown
pub mod SimulationLaws

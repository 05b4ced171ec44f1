pub mod Different
pub mod Found
pub mod Marks
pub mod RootParts
pub mod RootSized
pub mod Sweeps
pub mod Tallied
pub mod WholeSweep

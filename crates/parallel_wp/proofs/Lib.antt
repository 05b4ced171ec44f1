pub mod Examples
pub mod Preconditions
pub mod Replacing
pub mod Together
pub mod Weighing

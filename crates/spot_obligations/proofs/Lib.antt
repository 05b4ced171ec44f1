pub mod Examples
pub mod Weighing

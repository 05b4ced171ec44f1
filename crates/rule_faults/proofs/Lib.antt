pub mod Again
pub mod MarkedParts
pub mod Unmarked

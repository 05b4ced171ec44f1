pub mod Counting
pub mod Different
mod Examples
pub mod Grown
pub mod Growing
pub mod Keeping
pub mod Places
pub mod PutItems
pub mod PutTerms
pub mod Rebuilt
pub mod SameTerms

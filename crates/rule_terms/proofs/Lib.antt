pub mod Comparing
pub mod Members
pub mod Opens
pub mod Orders
pub mod Substitutions

pub mod Products
pub mod Magnitudes
pub mod Places
pub mod Values
pub mod Equality
pub mod Substituting

pub mod Closure
pub mod Congruence
pub mod Growth
pub mod Places
pub mod Terms

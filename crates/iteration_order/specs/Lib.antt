pub mod Affine
pub mod Exchange
pub mod Loops
pub mod Nest
pub mod RunningOrder

pub mod InOrder
pub mod Looking
pub mod Writing

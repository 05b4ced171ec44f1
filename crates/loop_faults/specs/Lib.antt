pub mod Laws
pub mod LoopFaults

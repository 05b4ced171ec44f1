pub mod Row
pub mod Cycle
pub mod Answer
pub mod Search

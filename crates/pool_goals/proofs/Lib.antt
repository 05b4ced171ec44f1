pub mod Arms
pub mod Befores
pub mod Counted
pub mod ItemSteps
pub mod Memos
pub mod There

pub mod ByText
pub mod Folding
pub mod Pairs
pub mod Placing
pub mod Spanning
pub mod Standing
pub mod SwapLaws
pub mod SwapText

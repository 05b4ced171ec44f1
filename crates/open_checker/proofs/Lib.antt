pub mod DifferentTerms
pub mod EscapeLaws
pub mod Indices

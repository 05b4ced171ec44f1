pub mod Operators
pub mod Precondition
pub mod PreconditionLaws
pub mod Weight

pub mod BuilderCode
pub mod Building
pub mod Placed
pub mod Refutation
pub mod RefutationCode

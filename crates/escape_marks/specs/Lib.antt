pub mod Failing
pub mod LawsHold
pub mod Marks

pub mod BackKept
pub mod IndexKept
pub mod KeptClauses
pub mod KeptLaws
pub mod KeptPairs
pub mod ReadShape
pub mod WrittenKept

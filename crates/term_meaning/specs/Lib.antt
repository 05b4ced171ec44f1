pub mod Indices
pub mod MaybeStore
pub mod Meaning
pub mod MeaningLaws
pub mod SameStore
pub mod Table
pub mod Writes

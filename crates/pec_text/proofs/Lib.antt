mod Examples
pub mod FirstTokens
pub mod Gaps
pub mod Ids
pub mod LineLemmas
pub mod Longest
pub mod Numerals
pub mod ReadTokens
pub mod Readings
pub mod Runs
pub mod SectionHeaderLemmas
pub mod SectionLemmas
pub mod Tables

pub mod Growth
pub mod Kept
pub mod Numbered
pub mod ObligationTerms
pub mod Pooled
pub mod Rebuilding

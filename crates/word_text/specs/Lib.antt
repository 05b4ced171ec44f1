pub mod Lines
pub mod WordLaws
pub mod WordLookup
pub mod Words

pub mod TermLaws
pub mod TermReading
pub mod TermText
pub mod Unread

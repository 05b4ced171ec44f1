pub mod Covers
pub mod Each
pub mod FillLaws
pub mod Occurs
pub mod Under

pub mod EscapeLaws
pub mod Escapes
pub mod Likeness
pub mod Once
pub mod Points

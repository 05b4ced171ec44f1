pub mod FlatTurns
pub mod PartTurns
pub mod ReadsBack
pub mod Turns
pub mod WholeParts
pub mod WrittenBack

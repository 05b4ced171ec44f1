pub mod Occurrences
pub mod Words
pub mod Moves
pub mod CountSteps
pub mod SlotSteps
pub mod NewTable
pub mod Seats
pub mod Chairs

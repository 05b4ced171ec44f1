pub mod Occurrences
pub mod Views
pub mod Rule
pub mod Steps
pub mod Chairs
pub mod Laws

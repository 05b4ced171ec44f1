pub mod Counting
pub mod Determined
pub mod InOrder
pub mod Listing
pub mod Merging
pub mod Stores
pub mod Values
pub mod Variables

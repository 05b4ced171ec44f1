pub mod LineReads
pub mod ReadBack
pub mod Runs
pub mod WordTable

pub mod Agreeing
pub mod Fits
pub mod Firsts
pub mod Undoing
pub mod Within

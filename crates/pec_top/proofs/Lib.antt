pub mod Accepted
pub mod Answering
pub mod Borrowed
pub mod Checking
mod Examples
pub mod Inputs
pub mod OneContent
pub mod OneInput
pub mod OneOutput
pub mod Reports
pub mod Seeing
pub mod SkipSides
pub mod Validity
pub mod Words

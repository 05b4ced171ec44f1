mod Examples
pub mod Agreeing
pub mod Closing
pub mod Lists
pub mod Meanings
pub mod Occurring
pub mod Staying

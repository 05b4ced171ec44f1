pub mod Closing
pub mod Placing
pub mod Turning

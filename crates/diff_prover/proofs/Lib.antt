pub mod Closing
pub mod Explained
pub mod Passes
pub mod Trails
pub mod Descents
pub mod Settling

pub mod Cells
pub mod Meant
pub mod Narrow

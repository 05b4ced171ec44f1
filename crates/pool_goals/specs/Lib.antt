pub mod Before
pub mod Nodes
pub mod Replaced

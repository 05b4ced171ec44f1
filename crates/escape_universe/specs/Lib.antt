pub mod Covered
pub mod MarksUniverse
pub mod Named
pub mod Shapes
pub mod Sought

pub mod Belows
pub mod Shapes
pub mod SummedValues
pub mod Tests

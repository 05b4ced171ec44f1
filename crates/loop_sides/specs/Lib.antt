pub mod Below
pub mod Laws
pub mod Required
pub mod Setting
pub mod Sides
pub mod Small
pub mod Spots
pub mod Summed

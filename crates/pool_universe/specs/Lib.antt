pub mod PooledParts
pub mod RootSizes
pub mod Roots

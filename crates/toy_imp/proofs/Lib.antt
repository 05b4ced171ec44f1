mod CanonicalExamples
mod Examples
mod HaltExamples
mod MethodExamples
mod SwapExamples
pub mod Alikes
pub mod CanonicalValues
pub mod Canonicals
pub mod Cases
pub mod Faultless
pub mod Fills
pub mod Fitting
pub mod Items
pub mod Meeting
pub mod Nestings
pub mod Numbers
pub mod PointPlaces
pub mod Runs
pub mod SpellableValues
pub mod Stores
pub mod Views

pub mod ConditionsPass
pub mod LawsPass
pub mod MarkedConditions
pub mod Shapes

pub mod NamedLiterals
pub mod ShapeTerms
pub mod UniverseMarks
pub mod Walking

pub mod ReadTerms
pub mod TermTurns
pub mod WordTurns

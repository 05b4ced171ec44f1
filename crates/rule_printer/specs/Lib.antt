pub mod CanonicalForms
pub mod CanonicalText
pub mod PrintedRule
pub mod ProgramText
pub mod RuleCanonicalText
pub mod RulePieces

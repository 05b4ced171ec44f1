pub mod ConditionReading
pub mod CutReading
pub mod DeclarationReading
pub mod Front
pub mod RuleAnswering
pub mod RuleReading

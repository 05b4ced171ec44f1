mod Examples
pub mod BlockLaid
pub mod Blocks
pub mod ExprLaid
pub mod Laying
pub mod OneSection
pub mod Phrases
pub mod ProgramPrinted
pub mod RuleLaid
pub mod RuleLines
pub mod RulePieces
pub mod RulePrinted
pub mod RulePrintedAgain
pub mod WrittenLines

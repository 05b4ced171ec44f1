pub mod IndexLaw
pub mod KeptLaws
pub mod KeptPairs
pub mod MarkedLaws
pub mod PairLaws
pub mod ReadBack
pub mod WrittenLaw

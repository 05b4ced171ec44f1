pub mod CutAnswers
pub mod Cuts
pub mod EntryLists
pub mod PointKinds

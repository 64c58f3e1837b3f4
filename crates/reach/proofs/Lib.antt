pub mod Least
pub mod ClosedSets
pub mod Ways
pub mod Passes
pub mod Answers

pub mod Walked
pub mod Judging
pub mod Following
pub mod Answers
pub mod Examples

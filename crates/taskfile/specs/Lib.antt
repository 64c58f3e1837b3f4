pub mod Records
pub mod Sound
pub mod Meaning
pub mod Judging
pub mod Answer
pub mod Workers

pub mod Least
pub mod Closing
pub mod Reach
pub mod Answer
pub mod OneStep

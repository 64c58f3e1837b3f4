pub mod Cut
pub mod Rounds
pub mod Workers
pub mod Answer
pub mod Making
pub mod Places

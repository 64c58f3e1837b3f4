pub mod Distance
pub mod Derivations
pub mod Relaxing
pub mod Answer

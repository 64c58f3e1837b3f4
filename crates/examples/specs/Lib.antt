pub mod Table
pub mod Claim
pub mod Refusals

pub mod Examples
pub mod Lowest
pub mod Conditions
pub mod FileRefusals
pub mod Demand1
pub mod WrongLibraries

pub mod Refusals
pub mod Sizing
pub mod Checking
pub mod HandingOut
pub mod Walks
pub mod RowsRead
pub mod Examples

pub mod Text
pub mod Page
pub mod Writing
pub mod Report
pub mod Workers

pub mod Tests
pub mod Sets
pub mod Words

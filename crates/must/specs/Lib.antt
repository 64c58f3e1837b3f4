pub mod Labels
pub mod Must
pub mod Answer
pub mod Workers
pub mod Table
pub mod Before
pub mod OneWay

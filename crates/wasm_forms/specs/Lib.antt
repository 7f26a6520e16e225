pub mod Reading
pub mod Number
pub mod Grammar
pub mod Spelling
pub mod Writing
pub mod Types

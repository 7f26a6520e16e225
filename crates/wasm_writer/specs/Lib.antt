pub mod Spelling
pub mod Writing
pub mod Measuring
pub mod Measures

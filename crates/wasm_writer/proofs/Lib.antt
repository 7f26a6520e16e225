pub mod Listed
pub mod WrittenModule
pub mod Ranges
pub mod MeasuredSections
pub mod Opened
pub mod Lengths
pub mod Groups

pub mod Forms
pub mod Operators
pub mod Pushing
pub mod Shape
pub mod Spelling
pub mod Standing
pub mod Table

pub mod Named
pub mod Segments
pub mod Short
pub mod Written
pub mod Laws

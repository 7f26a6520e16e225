pub mod Groups
pub mod Named
pub mod Reading
pub mod Indexed
pub mod Written
pub mod Ordered
pub mod Appended

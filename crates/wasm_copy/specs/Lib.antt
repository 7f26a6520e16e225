pub mod Copy
pub mod Listing
pub mod Program
pub mod Status
pub mod Words

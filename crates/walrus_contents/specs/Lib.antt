pub mod Named
pub mod References
pub mod There
pub mod View

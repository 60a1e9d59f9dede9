pub mod Front
pub mod Added
pub mod Given
pub mod Calls

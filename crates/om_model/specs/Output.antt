pub mod Conditions
pub mod Content
pub mod Head
pub mod Ranges
pub mod Text

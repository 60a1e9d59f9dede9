pub mod CallEntry
pub mod Ranges
pub mod Room

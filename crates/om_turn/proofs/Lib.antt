pub mod Counts
pub mod Changes
pub mod Draws
pub mod Leaves
pub mod Splits
pub mod Joins
pub mod Closes
pub mod Shares

pub mod Shelves
pub mod Rows
pub mod Copies

pub mod Lists
pub mod Runs
pub mod ZoneMoves
pub mod ZoneLaws
pub mod HomeLaws
pub mod LoneLaws
pub mod HasLaws

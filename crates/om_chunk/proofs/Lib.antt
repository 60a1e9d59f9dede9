pub mod Counts
pub mod PlaceLaws
pub mod PageLaws
pub mod Flags
pub mod OpenLaws

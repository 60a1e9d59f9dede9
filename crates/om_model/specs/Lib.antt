pub mod Data
pub mod Pool
pub mod Zones
pub mod Scripts
pub mod Output
pub mod Slow

pub mod Sights
pub mod Claims
pub mod Zones
pub mod ZoneStand
pub mod Lone
pub mod Having

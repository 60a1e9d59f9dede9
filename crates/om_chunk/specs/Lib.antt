pub mod Places
pub mod Pages
pub mod Picks
pub mod OpenSets

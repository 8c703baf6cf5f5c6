pub mod Arrivals
pub mod Counts
pub mod Handlings
pub mod Landings
pub mod Nets
pub mod Places

mod Fits
mod LoweredFits
pub mod PassedFits
mod Alike
mod Rooms
mod Steps
pub mod Takes
mod Apart
mod Restarted
pub mod Solid

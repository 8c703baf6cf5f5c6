pub mod Beginnings
pub mod Deliveries
pub mod Events
pub mod Nexts
pub mod Standing
pub mod Sweeps
pub mod Turnings

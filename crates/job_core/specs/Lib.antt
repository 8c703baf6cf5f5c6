pub mod Beginning
pub mod Cores
pub mod Effects
pub mod Sweeping
pub mod Turns
pub mod Views

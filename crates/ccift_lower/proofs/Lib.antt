mod Arms
pub mod Statements
pub mod Lays
pub mod Steps
pub mod Simulates
pub mod Compiles
pub mod PlacedFollows
pub mod Fits

pub mod Passed
pub mod Spots
pub mod Stages

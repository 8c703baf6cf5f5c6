pub mod State
pub mod Step
pub mod Level
pub mod Running
pub mod Rank

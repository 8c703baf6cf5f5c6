pub mod Entries
pub mod Kept
pub mod Moments
pub mod Replays
pub mod States
pub mod Stopping

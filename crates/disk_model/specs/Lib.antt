pub mod Disk
pub mod Files
pub mod Lawful
pub mod Memory
pub mod Runs
pub mod Sound
pub mod Stored

pub mod Memory
pub mod Written
pub mod Order
pub mod Seen
pub mod Kept
pub mod Resumed

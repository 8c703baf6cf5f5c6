pub mod Controls
pub mod Members
pub mod Networks
pub mod Queues
pub mod Sound
pub mod Wants

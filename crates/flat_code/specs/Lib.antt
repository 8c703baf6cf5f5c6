pub mod Machine
pub mod Placed
pub mod Text
pub mod Nested
pub mod Labels
pub mod Restart

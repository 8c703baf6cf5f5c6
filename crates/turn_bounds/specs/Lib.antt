pub mod Spaced
pub mod Settled
pub mod Objects

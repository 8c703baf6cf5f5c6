pub mod Along
pub mod Breach
pub mod Rank
pub mod Asking
pub mod Again
pub mod States

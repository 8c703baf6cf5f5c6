pub mod Named
pub mod Lists
pub mod Gathered
pub mod Sizes
pub mod Noted
mod Examples

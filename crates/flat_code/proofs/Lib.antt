pub mod Nodes
pub mod Nested
pub mod Lists
pub mod Labels

pub mod Telling
pub mod Meeting
pub mod Counting

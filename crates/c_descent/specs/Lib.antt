pub mod More
pub mod Functions
pub mod Calls
pub mod Statements

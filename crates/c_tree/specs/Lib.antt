pub mod Codes
pub mod Scan
pub mod Tokens
pub mod Words

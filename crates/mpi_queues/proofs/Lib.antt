pub mod Places
pub mod Rows
pub mod Sources
pub mod Gifts
pub mod Orders
pub mod Lowest

pub mod Job
pub mod Turn
pub mod Serials
pub mod Members
pub mod Plain

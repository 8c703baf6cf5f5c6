pub mod Lawful
pub mod Reading
pub mod Texts
mod Worked

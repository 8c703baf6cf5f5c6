pub mod Answers
pub mod Held
pub mod Left
pub mod Loads
pub mod Reading
pub mod Store
pub mod Texts

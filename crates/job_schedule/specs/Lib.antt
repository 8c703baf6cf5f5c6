pub mod Events
pub mod Words
pub mod Schedule
pub mod Reading

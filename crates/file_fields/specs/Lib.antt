pub mod Cells
pub mod Forms
pub mod Messages
pub mod Reads

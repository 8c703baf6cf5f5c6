pub mod Places
pub mod Finds
pub mod Enters
pub mod Refusals
pub mod Writes
pub mod ObjectExamples
pub mod Comebacks

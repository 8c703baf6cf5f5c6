pub mod Choices
mod StepExamples
pub mod Follows
pub mod Same
pub mod Begins

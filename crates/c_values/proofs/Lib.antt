pub mod Numbers
pub mod Wide
pub mod Exits
pub mod Nodes
pub mod Values
pub mod ValueExamples
mod NumberExamples
mod PointerExamples

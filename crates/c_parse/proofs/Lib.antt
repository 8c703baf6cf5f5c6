pub mod LexText
pub mod LexScan
pub mod Outcomes

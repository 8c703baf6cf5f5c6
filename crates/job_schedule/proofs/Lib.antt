mod Numbers
mod Turns
mod Options
mod Readable
mod Signs
mod Ranks
mod Tables
mod Splits
pub mod Verdicts
mod Found
mod Counts

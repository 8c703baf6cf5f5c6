pub mod Committing
pub mod Cutting
pub mod Finishing
pub mod Frame
pub mod Holding
pub mod Lawful
pub mod Lines
pub mod Loading
pub mod Making
pub mod Pieces
pub mod Programs
pub mod Saving
pub mod Sessions
pub mod Standings
mod Worked

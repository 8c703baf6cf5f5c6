pub mod Lowered
pub mod Laid
pub mod Stands
pub mod Follows
pub mod Runs

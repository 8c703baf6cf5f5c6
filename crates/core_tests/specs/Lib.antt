pub mod Again
pub mod Jobs
pub mod Script

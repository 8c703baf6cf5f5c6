pub mod Value
pub mod Variables
pub mod Text

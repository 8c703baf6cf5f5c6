pub mod Judged
pub mod Types
pub mod Scope
pub mod Table
pub mod Rules
pub mod Roles
pub mod Format

pub mod SmallTrees
pub mod Examples
pub mod Nodes
pub mod Least
pub mod TypedParts
pub mod TypedExpressions
pub mod TypedStatements
pub mod TypedTree
mod Regular
pub mod Verdicts
pub mod Tables
pub mod InOrder
pub mod Bodies
pub mod Silences
pub mod Steps

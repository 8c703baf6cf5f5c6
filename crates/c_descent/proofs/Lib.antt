mod ExpressionSteps
mod ExpressionWords
mod ExpressionShapes
mod ItemRows
mod CallSteps
pub mod StatementChoices
mod StatementChains
mod StatementShapes

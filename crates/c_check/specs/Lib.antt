pub mod Structs
pub mod Functions
pub mod Expression
pub mod Mpi
pub mod Statement
pub mod Program
pub mod Check
pub mod Told

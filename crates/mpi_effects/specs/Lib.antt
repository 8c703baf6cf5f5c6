pub mod Requests
pub mod Mpi
pub mod World

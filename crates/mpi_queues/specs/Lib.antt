pub mod Firsts
pub mod Pairs
pub mod Arrivals
pub mod Order
pub mod Laws

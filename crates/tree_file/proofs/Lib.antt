pub mod Rulings
mod Climbs
mod Depths
mod Records
mod Header
pub mod Accepted
pub mod Services

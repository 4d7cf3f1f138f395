pub mod Least
pub mod Rows
pub mod Best
pub mod Guarded
pub mod TreeRows
pub mod BestAt
pub mod TwoCounts

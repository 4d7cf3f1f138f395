pub mod Counting
pub mod Visits
pub mod Rankings

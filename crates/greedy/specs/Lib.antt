pub mod Savings
pub mod Words
pub mod Run

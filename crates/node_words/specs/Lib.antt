pub mod Words
pub mod Ancestors

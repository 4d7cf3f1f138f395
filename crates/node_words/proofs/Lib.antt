pub mod Ancestors
pub mod Words
mod Measures
mod Links

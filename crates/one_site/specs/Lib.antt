pub mod Site
pub mod Answers

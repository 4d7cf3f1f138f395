pub mod Walks
pub mod Passes
pub mod Answers

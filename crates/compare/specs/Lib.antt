pub mod Counting
pub mod Answers

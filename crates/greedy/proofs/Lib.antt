pub mod Reaches
pub mod Saved
pub mod Gathered
pub mod Steps
mod Words
mod Passes
mod EmptySet
mod OneMore
mod TakeSite
mod BestSite
mod Turns
mod Runs
pub mod Answers

pub mod Served
pub mod Nodes
pub mod Walk
pub mod Splits
pub mod Budgets
pub mod Answers

pub mod Walk
pub mod Budgets

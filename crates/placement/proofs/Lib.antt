pub mod Members
pub mod Servings
pub mod Walks
pub mod Sizes
pub mod Turns
pub mod Bills
pub mod Totals
pub mod Written

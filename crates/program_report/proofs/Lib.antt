pub mod Rules
pub mod Memory

pub mod Entries
pub mod RunningMin
pub mod Node
pub mod Row
pub mod First
pub mod LeastSplit
pub mod HeldBest

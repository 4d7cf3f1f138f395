pub mod Places
mod Counting
mod Placing

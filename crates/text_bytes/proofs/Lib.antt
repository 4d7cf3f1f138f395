pub mod Appended
mod Bytes

pub mod Table
mod Reading

pub mod Lists
pub mod FirstLeast
pub mod Slices
pub mod FirstGreatest
pub mod Fronts

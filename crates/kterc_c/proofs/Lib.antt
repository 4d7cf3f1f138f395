mod Room
mod Bills
mod Sites
mod Targets
mod Named

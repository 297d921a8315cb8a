-- Laws for the crates above; Theorems is the front door.
pub mod Pieces
pub mod Runs
mod Theorems

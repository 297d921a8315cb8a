-- Laws for the crates above; Theorems is the front door.
pub mod Rows
pub mod Looking
mod Words
pub mod Marked
pub mod Coding
pub mod Ranks
mod Theorems

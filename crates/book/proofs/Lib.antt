-- Theorems is the front door; the rest are the laws behind it, some of them for the printed table and the door for C and Rust too.
pub mod Refusals
pub mod Laid
pub mod Entries
mod Counted
pub mod Left
mod Filling
pub mod Books
pub mod Ordered
pub mod Trips
mod Theorems

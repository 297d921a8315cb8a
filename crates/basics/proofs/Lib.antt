-- Laws for the crates above; Theorems is the front door.
pub mod Tests
pub mod Table
pub mod First
pub mod Bytes
pub mod Fields
pub mod Refusals
pub mod Fitting
pub mod Rows
pub mod One
mod Theorems

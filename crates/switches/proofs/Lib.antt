-- Laws for the crates above; Theorems is the front door.
mod Below
mod Sent
mod Alike
mod Walking
mod Refusals
mod Counting
mod Putting
mod Checking
mod Listed
mod Extended
mod Looked
pub mod Grown
mod Greatest
mod Theorems

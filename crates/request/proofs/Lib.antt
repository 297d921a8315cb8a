-- Laws for the crates above; Theorems is the front door.
pub mod Order
pub mod FirstCome
pub mod Channels
pub mod Fates
mod Theorems

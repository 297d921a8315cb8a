-- Theorems is the front door; the rest are the laws behind it, three of them for the printed table and the door for C and Rust too.
mod Scanning
mod Ranking
mod Single
mod Commands
mod Local
mod Moving
mod Without
mod Witness
mod Source
mod OneStep
mod Alarmed
mod Reached
mod Possible
pub mod Exact
mod Remembering
mod Forgetting
pub mod Alike
mod Looks
mod Followed
mod Repeating
mod Passing
mod Walking
pub mod Judged
mod Words
mod Reading
mod Keeping
mod Settling
mod Filled
mod Explaining
pub mod Tables
mod Computed
mod Theorems

-- Theorems is the front door; the rest are the laws behind it, some of them for the program and for the door for C and Rust.
mod Puts
mod Verdicts
pub mod Captures
mod Longest
pub mod Tables
mod Walking
mod Example
mod Attained
mod Theorems

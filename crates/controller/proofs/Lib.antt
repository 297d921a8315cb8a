-- Laws for the crates above; Theorems is the front door.
pub mod Apart
pub mod Candidates
pub mod Sections
mod Nest
pub mod Usability
pub mod Inputs
pub mod Alarm
pub mod Sendable
pub mod Sending
pub mod Making
pub mod Stepping
pub mod Keeping
mod Staying
pub mod Ranking
mod Remembering
pub mod Commands
mod Theorems

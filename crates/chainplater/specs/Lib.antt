-- What a reader has to believe of the door for C and Rust: which bytes stand for which answer. `Given` is what the contracts
-- inside the crate cite, and need not be believed.
pub mod Caller
pub mod Coder
pub mod Record
pub mod Given
pub mod Verdict
pub mod Switches

-- What the crates above share: the first answer that applies, what an answer promises, the values of a function as a table,
-- big-endian numbers, and fields of them one behind the other; the numbered refusals; which settings fit; and what a capture is.
pub mod First
pub mod Answer
pub mod Table
pub mod Bytes
pub mod Fields
pub mod Refusal
pub mod Settings
pub mod Capture

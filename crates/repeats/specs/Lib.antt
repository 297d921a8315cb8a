-- Rows of a capture that repeat the row before them.
pub mod Repeats

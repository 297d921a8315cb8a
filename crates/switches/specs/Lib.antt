-- What a reader has to believe of the switches: the changes of a capture, what extending their list answers and leaves in
-- the table, and what looking up the last change answers.
pub mod Changes
pub mod Extend
pub mod LastChange
-- Need not be believed: what the contracts inside the crate cite.
pub mod Walk

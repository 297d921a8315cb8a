-- To be believed: the controller of document 01, in its order: settings, the rules of one step, the refusals, the step, runs,
-- the sequences.
pub mod Settings
pub mod Rules
pub mod Refusals
pub mod Command
pub mod Step
pub mod Run
pub mod Sequences
-- Need not be believed: what the functions behind the local request promise each other. What it is stands in `Rules`.
pub mod Asking

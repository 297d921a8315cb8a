-- What the decision takes of ranks and channels alone (01, 'One step', rules 2 to 7), and no byte.
pub mod Order
pub mod Command
pub mod Wait
pub mod Bridge

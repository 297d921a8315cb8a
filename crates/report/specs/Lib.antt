-- What a reader has to believe of the printed table: its text and what becomes of the page (Table), and the paper's example of it.
-- `Put` is what the contracts inside the crate cite, and need not be believed.
pub mod Table
pub mod Example
pub mod Put

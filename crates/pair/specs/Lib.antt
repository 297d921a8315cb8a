-- The byte pair of document 01, in its order: the table of requests, the marks, the table of K1 values (02, j), the answers,
-- decoding and encoding.
pub mod Request
pub mod Marks
pub mod Table
pub mod Coder
